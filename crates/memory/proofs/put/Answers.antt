-- `memory::put` meets its contract. Assumes nothing.
use native.Mathlib.Omega.{arith}
use Rattle.memory.specs.Words.{put_word}
use Rattle.memory.proofs.WordLaws.{paste_four}
use Rattle.memory.proofs.put.Goals as goal

pub returns : goal.returns
unfolding put_word
returns c =
    let a = c.args in
    rw (c.copy_from_slice.ensures.after, c.to_le_bytes.ensures)
    (paste_four a.s.now a.i _ _ _ _ _ (omega arith) (omega arith))
