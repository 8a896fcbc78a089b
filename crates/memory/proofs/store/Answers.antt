-- `memory::store` meets its contract. Assumes nothing.
use native.Mathlib.Omega.{arith}
use borrow.Author.Rules.{rules}
use Rattle.memory.proofs.ArrayLaws.{storing_word}
use Rattle.memory.proofs.store.Goals as goal

pub loop-n-preserved : goal.loop-n-preserved
loop-n-preserved g c =
    storing_word (omega arith) (omega arith) (search rules) c.put.ensures
    c.loop-n.invariant
