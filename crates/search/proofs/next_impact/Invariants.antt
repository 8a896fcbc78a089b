-- `next_impact`'s loop. Assumes nothing.
use mathlib.Core.Path.{◌≡◌}
use lib.ListN.{take}
use Rattle.search.specs.Cut.{up_to}
use Rattle.search.proofs.next_impact.Given as goal

abbrev pub invariant-loop-x : goal.invariant-loop-x
invariant-loop-x l = l.next ≡ up_to l.cap (take l.x-index l.column)
