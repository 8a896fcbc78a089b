-- `walk_to`'s loops. Assumes nothing.
use mathlib.Core.Path.{◌≡◌}
use Rattle.memory.specs.Words.{words}
use Rattle.window.specs.Slot.{ring, seek}
use Rattle.window.proofs.walk_to.Given as goal

-- the serial is to be looked for in the iterator's slots
abbrev pub invariant-loop-j : goal.invariant-loop-j
invariant-loop-j l =
    seek (words l.state) l.serial (ring l.j-iterator.at l.j-iterator.left) ≡ seek (words l.state) l.serial (ring l.fn.messages.first l.fn.messages.count)
