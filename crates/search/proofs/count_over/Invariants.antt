-- `count_over`'s loop. Assumes nothing.
use Prim.Native.Nat.{◌≤◌}
use mathlib.Core.Path.{◌≡◌}
use lib.ListN.{take}
use Rattle.search.specs.Cut.{over}
use Rattle.search.proofs.count_over.Given as goal

abbrev pub invariant-loop-x : goal.invariant-loop-x
invariant-loop-x l = (l.count ≤ l.x-index) × (l.count ≡ over l.cap (take l.x-index l.column))
