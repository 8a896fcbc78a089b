-- `memory::store_big` meets its contract. Assumes nothing.
use native.Mathlib.Omega.{arith}
use borrow.Author.Rules.{rules}
use Rattle.memory.proofs.ArrayLaws.{storing_big}
use Rattle.memory.proofs.store_big.Goals as goal

pub loop-n-preserved : goal.loop-n-preserved
loop-n-preserved g c =
    storing_big (omega arith) (omega arith) (search rules) c.put_big.ensures
    c.loop-n.invariant
