-- `serial_among`'s loops. Assumes nothing.
use Prim.Native.Nat.{◌-◌, ◌≤◌}
use mathlib.Core.Path.{◌≡◌}
use Rattle.memory.specs.Words.{words}
use Rattle.window.specs.Slot.{window, holds_serial}
use Rattle.window.proofs.serial_among.Given as goal

-- what is found among the slots from the first up to slot j
abbrev pub invariant-loop-j : goal.invariant-loop-j
invariant-loop-j l = (l.first ≤ l.j)
    × (l.j - l.first ≤ l.end - l.first)
    × (l.found ≡ holds_serial l.serial (window (words l.state) l.first (l.j - l.first)))
