-- `has_serial` meets its contract. Assumes nothing.
use native.Mathlib.Omega.{arith}
use Rattle.window.proofs.WalkLaws.{serial_parts}
use Rattle.window.proofs.has_serial.Goals as goal

pub returns : goal.returns
returns c = serial_parts _ _ _ _ _ (omega arith) (omega arith) (omega arith) c.serial_among-2.ensures c.serial_among-3.ensures
