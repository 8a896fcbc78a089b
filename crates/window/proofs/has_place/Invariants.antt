-- `has_place`'s loops: the answer is that of the sum so far and of the cells from the i-th on. Assumes nothing.
use Prim.Native.Nat.{◌*◌, ◌≤◌}
use mathlib.Core.Path.{◌≡◌}
use mathlib.Core.Bool.{◌||◌}
use lib.ListN.{drop}
use lib.Dec.{ltb}
use Rattle.memory.specs.Words.{words}
use Rattle.window.specs.Slot.{slot}
use Rattle.window.specs.Rows.{touches}
use Rattle.window.proofs.has_place.Given as goal

abbrev pub invariant-loop-i : goal.invariant-loop-i
invariant-loop-i l = (l.sum ≤ 255 * l.i)
    × ((ltb 0 l.sum || touches l.places (drop l.i (slot (words l.state) l.j).cells)) ≡ touches l.places (slot (words l.state) l.j).cells)
