-- `squares_in`'s loops. Assumes nothing.
use Prim.Native.Nat.{◌*◌, ◌≤◌}
use mathlib.Core.Path.{◌≡◌}
use mathlib.Core.List.{map}
use Rattle.memory.specs.Words.{words}
use Rattle.impact.specs.Cell.{cell_count, squares_of}
use Rattle.window.specs.Slot.{slot}
use Rattle.window.proofs.squares_in.Given as goal

abbrev pub invariant-loop-i : goal.invariant-loop-i
invariant-loop-i l = (l.sum ≡ squares_of l.i (map cell_count (slot (words l.state) l.j).cells)) × (l.sum ≤ l.i * (255 * 255))
