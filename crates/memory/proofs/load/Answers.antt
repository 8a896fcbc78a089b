-- `memory::load` meets its contract. Assumes nothing.
use native.Mathlib.Omega.{arith}
use Rattle.memory.proofs.ArrayLaws.{loading_more}
use Rattle.memory.proofs.load.Goals as goal

pub loop-n-preserved : goal.loop-n-preserved
loop-n-preserved g c = loading_more (omega arith) (omega arith) c.get.ensures c.loop-n.invariant
