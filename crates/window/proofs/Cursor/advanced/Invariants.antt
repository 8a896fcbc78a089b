-- `Cursor::advanced`'s loops: dropping what is past gives the same answer from each slot on that the loop comes to. Assumes nothing.
use mathlib.Core.Path.{◌≡◌}
use Rattle.memory.specs.Words.{words}
use Rattle.window.specs.Slot.{window, drop_past}
use Rattle.window.specs.Cursor.{Moved}
use Rattle.window.proofs.Cursor.advanced.Given as goal

abbrev pub invariant-loop-self : goal.invariant-loop-self
invariant-loop-self l = (l.self.clock ≡ l.clock)
    × Moved l.initial.self.messages.first l.initial.self.messages.count l.self.messages.first l.self.messages.count
    × (drop_past l.life l.clock (window (words l.state) l.self.messages.first l.self.messages.count)
    ≡ drop_past l.life l.clock (window (words l.state) l.initial.self.messages.first l.initial.self.messages.count))

abbrev pub decreases-loop-self : goal.decreases-loop-self
decreases-loop-self l = l.self.messages.count
