-- `has_place` meets its contract: the answer is that of the sum so far and of the cells from the i-th on. Assumes nothing.
use native.Mathlib.Omega.{arith}
use Rattle.window.proofs.RowLaws.{touches_more, touches_end}
use Rattle.window.proofs.has_place.Goals as goal

pub loop-i-preserved : goal.loop-i-preserved
loop-i-preserved c = (omega arith, grind (arith, touches_more))

pub returns : goal.returns
returns c = grind (arith, touches_end)
