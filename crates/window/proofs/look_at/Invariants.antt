-- `look_at`'s loops. Assumes nothing.
use lib.ListN.{drop}
use Rattle.memory.specs.Words.{words}
use Rattle.window.specs.Slot.{slot}
use Rattle.window.specs.Rows.{LookedAt}
use Rattle.window.proofs.look_at.Given as goal

-- the cells from the i-th on are in the row
abbrev pub invariant-loop-i : goal.invariant-loop-i
invariant-loop-i l = LookedAt (drop l.i (slot (words l.state) l.j).cells) l.places l.at l.initial.rows l.rows
