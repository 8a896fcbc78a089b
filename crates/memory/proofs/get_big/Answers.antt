-- `memory::get_big` meets its contract. Assumes nothing.
use Rattle.memory.proofs.WordLaws.{get_big}
use Rattle.memory.proofs.get_big.Goals as goal

pub returns : goal.returns
returns c = rw (get_big c.args.s.now c.args.i c.requires) c.from_be_bytes.ensures
