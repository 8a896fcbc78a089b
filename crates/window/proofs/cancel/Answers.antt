-- `cancel` meets its contract. Assumes nothing.
use native.Mathlib.Omega.{arith}
use Rattle.window.proofs.SlotLaws.{slot_cancelled}
use Rattle.window.proofs.cancel.Goals as goal

pub returns : goal.returns
returns c =
    slot_cancelled _ _ _ _ (omega arith) (omega arith) (omega (arith, c.serial_in-serial.ensures, c.size_in-size.ensures))
    (omega (arith, c.urgency_in-urgency.ensures)) c.put.ensures c.put-2.ensures
