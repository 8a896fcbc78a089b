-- `touched` meets its contract. Assumes nothing.
use native.Mathlib.Omega.{arith}
use mathlib.Core.Path.{refl}
use Rattle.memory.specs.Words.{words}
use Rattle.query.specs.Touch.{found_sum, found_above}
use Rattle.query.proofs.TouchLaws.{above_turn, sum_turn}
use Rattle.query.proofs.touched.Goals as goal

pub loop-i-init : goal.loop-i-init
unfolding found_above found_sum
loop-i-init c = (refl, refl, (refl, omega arith), (refl, omega arith))

pub loop-i-preserved : goal.loop-i-preserved
loop-i-preserved c =
    let a = c.args in
    let w = words a.state.now in
    let i = c.loop-i.i in
    let new = c.from-new.ensures in
    let old = c.from-old.ensures in
    let h = c.get-threshold.ensures in (
      above_turn w a.q a.coming.now i c.get-pair.ensures new h c.loop-i.invariant.0,
      above_turn w a.q a.going.now i c.get-pair.ensures old h c.loop-i.invariant.1,
      sum_turn w a.q a.coming.now i c.get-pair.ensures new c.loop-i.invariant.2 c.type_inv.coming,
      sum_turn w a.q a.going.now i c.get-pair.ensures old c.loop-i.invariant.3 c.type_inv.going,
    )
