-- `cell_in`'s loops. Assumes nothing.
use mathlib.Core.Path.{◌≡◌}
use lib.ListN.{drop}
use Rattle.memory.specs.Words.{words}
use Rattle.impact.specs.Cell.{cell_with}
use Rattle.window.specs.Slot.{slot}
use Rattle.window.proofs.cell_in.Given as goal

-- the term is to be looked up among the cells from the i-th on
abbrev pub invariant-loop-i : goal.invariant-loop-i
invariant-loop-i l = cell_with l.term (drop l.i (slot (words l.state) l.j).cells) ≡ cell_with l.term (slot (words l.state) l.j).cells
