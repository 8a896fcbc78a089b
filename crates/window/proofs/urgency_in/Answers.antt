-- `urgency_in` meets its contract. Assumes nothing.
use native.Mathlib.Omega.{arith}
use Rattle.window.specs.Slot.{slot}
use Rattle.window.proofs.urgency_in.Goals as goal

pub returns : goal.returns
unfolding slot
returns c = omega (arith, c.get-word.ensures)
