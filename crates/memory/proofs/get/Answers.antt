-- `memory::get` meets its contract. Assumes nothing.
use Rattle.memory.proofs.WordLaws.{get_word}
use Rattle.memory.proofs.get.Goals as goal

pub returns : goal.returns
returns c = rw (get_word c.args.s.now c.args.i c.requires) c.from_le_bytes.ensures
