-- `sum_at` meets its contract. Assumes nothing.
use Prim.Native.Nat.{◌*◌, ◌≤◌}
use native.Mathlib.Omega.{arith}
use mathlib.Core.Path.{◌≡◌, refl, ap₂, ◌∙◌}
use lib.ListN.{get_or}
use Rattle.search.specs.Cut.{cap, up_to, sum_at}
use Rattle.search.specs.Post.{column}
use Rattle.search.proofs.ColumnLaws.{sum_turn, product_most}
use Rattle.search.proofs.sum_at.Goals as goal

pub loop-p-init : goal.loop-p-init
unfolding sum_at
loop-p-init c = (omega arith, refl)

pub loop-p-preserved : goal.loop-p-preserved
loop-p-preserved c =
    let little : get_or c.args.query.weights c.loop-p.p 0 * c.from.result ≤ 1048576 =
    product_most _ _ (c.requires.1.weights_most c.loop-p.p (omega arith)) (omega arith) in
    let a = c.args in
    let r = c.loop-p in
    let cols = a.columns.now in
    let e : c.next_impact-next.result ≡ up_to (cap a.at r.p (get_or a.query.weights r.p 0)) (column cols a.m r.p) =
    c.next_impact-next.ensures ∙ ap₂ up_to c.cap.ensures c.column_of.ensures in
    (omega (arith, little), sum_turn a.query.weights (column cols a.m) a.at r.p r.invariant.1 (c.from.ensures ∙ e))
