-- `squared` meets its contract. Assumes nothing.
use Prim.Native.Nat.{◌+◌, ◌*◌, ◌≤◌, ◌<◌}
use native.Mathlib.Omega.{arith}
use mathlib.Core.Path.{◌≡◌, refl, ◌∙◌}
use lib.ListN.{get_or, length-take}
use lib.Seq.{get_or-take}
use Rattle.paper.proofs.ImpactLaws.{square_most}
use Rattle.impact.specs.Cell.{squares_of}
use Rattle.impact.proofs.CellLaws.{squares_more}
use Rattle.impact.proofs.squared.Goals as goal

-- the count at hand, its square and the sum with it
taken : (c : goal.After-from-f) → let f = c.from-f.result in let i = c.loop-count.count-index in
    (f * f ≤ 255 * 255) × (c.loop-count.sum + f * f ≡ squares_of (i + 1) c.args.counts) × (i < c.args.m)
taken c =
    let a = c.args in
    let i = c.loop-count.count-index in
    let n = length-take a.m a.counts in
    let l : i < a.m = omega arith in
    let e : c.from-f.result ≡ get_or a.counts i 0 = c.from-f.ensures ∙ get_or-take a.m a.counts i 0 l in
    let m = squares_more i a.counts in
    (rw e (square_most _ (c.requires.1 i l)), rw (e, m, c.loop-count.invariant.0) refl, l)

pub loop-count-init : goal.loop-count-init
unfolding squares_of
loop-count-init c = (omega arith, omega arith)

pub loop-count-preserved : goal.loop-count-preserved
loop-count-preserved c = let h = taken c in (h.1, omega arith)
