-- `without_gone` meets its contract. Assumes nothing.
use native.Mathlib.Omega.{arith}
use mathlib.Core.Path.{◌≡◌}
use Rattle.query.proofs.PlaceLaws.{leaving_all, leaving_next, cancelled_leaves, none_cancelled}
use Rattle.query.proofs.without_gone.Goals as goal

pub loop-j-init : goal.loop-j-init
loop-j-init c = let s = c.into_iter-j-iterator.ensures.into_iter_gives in rw (s.0, s.1) leaving_all

pub loop-j-preserved : goal.loop-j-preserved
loop-j-preserved c =
    let t = c.in-Some.ensures.steps in
    rw (t.2, t.3, ← t.1) (leaving_next c.loop-j.invariant t.0 (rw t.1 c.serial_in.ensures) c.removed-rest.ensures)

pub returns-in-Some-cancelled : goal.returns-in-Some-cancelled
returns-in-Some-cancelled c =
    let none : c.loop-j.j-iterator.left ≡ 0 = c.in-None.ensures.steps.0 in
    rw c.in-Some-cancelled.is (cancelled_leaves _ c.loop-j.invariant (omega arith) (omega arith) (omega arith) c.removed.ensures)

pub returns-in-None-cancelled : goal.returns-in-None-cancelled
returns-in-None-cancelled c =
    let none : c.loop-j.j-iterator.left ≡ 0 = c.in-None.ensures.steps.0 in
    rw c.in-None-cancelled.is (none_cancelled _ c.loop-j.invariant (omega arith) (omega arith) (omega arith))
