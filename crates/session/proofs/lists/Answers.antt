-- `lists` meets its contract. Assumes nothing.
use Prim.Native.Nat.{ℕ, ◌/◌}
use native.Mathlib.Numerals.{add-one}
use native.Mathlib.Omega.{arith}
use mathlib.Core.Path.{refl, ap}
use Rattle.session.specs.Text.{marks_from}
use Rattle.session.proofs.TextLaws.{lists_none, lists_next}
use Rattle.session.proofs.lists.Goals as goal

pub loop-q-init : goal.loop-q-init
unfolding marks_from
loop-q-init c = let a = c.args in (refl, lists_none a.state.now a.marks a.at a.out.now, omega arith)

pub loop-q-preserved : goal.loop-q-preserved
unfolding marks_from
loop-q-preserved c =
    let inv = c.loop-q.invariant in
    let more = add-one c.loop-q.q in
    let one = c.shown-end.ensures in
    (rw more (ap (λ (l : ℕ). l / 2) inv.0), rw more (lists_next inv.0 inv.1 one.printed), omega arith)
