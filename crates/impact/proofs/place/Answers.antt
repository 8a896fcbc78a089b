-- `place` meets its contract. Assumes nothing.
use Prim.Native.Nat.{◌+◌, ◌/◌}
use native.Mathlib.Omega.{arith}
use Rattle.impact.proofs.Places.{upper_half, lower_half}
use Rattle.impact.proofs.Table.{entry}
use Rattle.impact.proofs.place.Goals as goal

pub loop-low-preserved-then-square-most : goal.loop-low-preserved-then-square-most
loop-low-preserved-then-square-most c =
    let l = c.loop-low in
    let e = entry ((l.low + l.high + 1) / 2) (omega arith) in
    upper_half l.invariant (omega arith) (omega arith) (omega (arith, c.square.ensures))

pub loop-low-preserved : goal.loop-low-preserved
loop-low-preserved c =
    let l = c.loop-low in
    let e = entry ((l.low + l.high + 1) / 2) (omega arith) in
    lower_half l.invariant (omega arith) (omega arith) (omega (arith, c.square.ensures))
