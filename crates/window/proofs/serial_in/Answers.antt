-- `serial_in` meets its contract. Assumes nothing.
use borrow.Author.Rules.{rules}
use Rattle.window.specs.Slot.{slot}
use Rattle.window.proofs.serial_in.Goals as goal

pub returns : goal.returns
unfolding slot
returns c = search rules
