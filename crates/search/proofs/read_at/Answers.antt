-- `read_at` meets its contract. Assumes nothing.
use native.Mathlib.Omega.{arith}
use mathlib.Core.Path.{◌≡◌, refl, ap₂, ◌∙◌}
use lib.ListN.{get_or}
use Rattle.search.specs.Cut.{cap, over, read_at}
use Rattle.search.specs.Post.{column}
use Rattle.search.proofs.ColumnLaws.{read_turn}
use Rattle.search.proofs.read_at.Goals as goal

pub loop-p-init : goal.loop-p-init
unfolding read_at
loop-p-init c = (omega arith, refl)

pub loop-p-preserved : goal.loop-p-preserved
loop-p-preserved c =
    let a = c.args in
    let r = c.loop-p in
    let cols = a.columns.now in
    let e : c.count_over-count.result ≡ over (cap a.at r.p (get_or a.query.weights r.p 0)) (column cols a.m r.p) =
    c.count_over-count.ensures.0 ∙ ap₂ over c.cap.ensures c.column_of.ensures in
    (omega (arith, c.count_over-count.ensures.1), read_turn a.query.weights (column cols a.m) a.at r.p r.invariant.1 e)
