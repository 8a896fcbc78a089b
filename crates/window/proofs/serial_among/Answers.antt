-- `serial_among` meets its contract. Assumes nothing.
use Prim.Native.Nat.{◌-◌}
use native.Mathlib.Omega.{arith}
use mathlib.Core.Path.{◌≡◌}
use Rattle.window.proofs.WalkLaws.{serial_none, serial_more}
use Rattle.window.proofs.serial_among.Goals as goal

pub loop-j-init : goal.loop-j-init
loop-j-init c = (omega arith, omega arith, serial_none _ _ _ _ (omega arith))

pub loop-j-preserved : goal.loop-j-preserved
loop-j-preserved c =
    let l = c.loop-j in (omega arith, omega arith, serial_more _ _ _ _ (omega arith) (omega arith) c.serial_in.ensures l.invariant.2)

pub returns : goal.returns
returns c = let all : c.loop-j.j - c.args.first ≡ c.args.end - c.args.first = omega arith in rw (← all) c.loop-j.invariant.2
