-- `cell_in` meets its contract. Assumes nothing.
use native.Mathlib.Omega.{arith}
use Rattle.impact.proofs.CellLaws.{with_here, with_next, with_end}
use Rattle.window.proofs.cell_in.Goals as goal

pub returns-then-cell-term : goal.returns-then-cell-term
returns-then-cell-term c = grind (arith, with_here)

pub loop-i-preserved : goal.loop-i-preserved
loop-i-preserved c = grind (arith, with_next)

pub returns : goal.returns
returns c = grind (arith, with_end)
