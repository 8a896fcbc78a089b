-- `count_over` meets its contract. Assumes nothing.
use native.Mathlib.Omega.{arith}
use mathlib.Core.Path.{refl}
use Rattle.search.specs.Cut.{over}
use Rattle.search.proofs.ColumnLaws.{over_hit, over_miss}
use Rattle.search.proofs.count_over.Goals as goal
use Rattle.search.proofs.count_over.Goals.{then-cap-x, else-cap-x}

pub loop-x-init : goal.loop-x-init
unfolding over
loop-x-init c = (omega arith, refl)

pub loop-x-preserved : goal.loop-x-preserved
loop-x-preserved c =
    let l = c.loop-x in
    let a = c.args in
    elim c.if-cap-x.branch [
      | then-cap-x w ↦ (omega arith, rw w.count-is (over_hit a.column.now l.x-index a.cap (omega arith) l.invariant.1 (omega arith)))
      | else-cap-x w ↦ (omega arith, rw w.count-is (over_miss a.column.now l.x-index a.cap (omega arith) l.invariant.1 (omega arith)))
    ]
