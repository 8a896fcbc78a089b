-- `raise_impacts`'s loops. Assumes nothing.
use mathlib.Core.Path.{◌≡◌}
use lib.ListN.{length}
use Rattle.memory.specs.Words.{words}
use Rattle.window.specs.Slot.{slot}
use Rattle.window.specs.Table.{term_limit}
use Rattle.window.proofs.TableLaws.{Cells}
use Rattle.window.proofs.raise_impacts.Given as goal

-- the cells from the i-th on are left
abbrev pub invariant-loop-i : goal.invariant-loop-i
invariant-loop-i l = (length l.table ≡ term_limit) × Cells (slot (words l.state) l.j).cells l.initial.table l.i l.table
