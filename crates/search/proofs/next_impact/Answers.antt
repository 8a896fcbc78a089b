-- `next_impact` meets its contract. Assumes nothing.
use native.Mathlib.Omega.{arith}
use mathlib.Core.Path.{refl}
use Rattle.search.specs.Cut.{up_to}
use Rattle.search.proofs.ColumnLaws.{up_to_turn}
use Rattle.search.proofs.next_impact.Goals as goal

pub loop-x-init : goal.loop-x-init
unfolding up_to
loop-x-init c = refl

pub loop-x-preserved : goal.loop-x-preserved
loop-x-preserved c =
    let l = c.loop-x in
    let a = c.args in
    up_to_turn a.column.now l.x-index a.cap (omega arith) l.invariant c.capped.ensures c.max-next.ensures
