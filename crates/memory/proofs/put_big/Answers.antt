-- `memory::put_big` meets its contract. Assumes nothing.
use native.Mathlib.Omega.{arith}
use Rattle.memory.specs.Words.{put_big}
use Rattle.memory.proofs.WordLaws.{paste_four}
use Rattle.memory.proofs.put_big.Goals as goal

pub returns : goal.returns
unfolding put_big
returns c =
    let a = c.args in
    rw (c.copy_from_slice.ensures.after, c.to_be_bytes.ensures)
    (paste_four a.s.now a.i _ _ _ _ _ (omega arith) (omega arith))
