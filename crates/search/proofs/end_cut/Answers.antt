-- `end_cut` meets its contract. Assumes nothing.
use native.Mathlib.Omega.{arith}
use Rattle.search.specs.Post.{column}
use Rattle.search.proofs.SumLaws.{sum_none, sum_rises}
use Rattle.search.proofs.end_cut.Goals as goal

pub loop-high-init : goal.loop-high-init
loop-high-init c =
    let a = c.args in (
      omega arith,
      omega arith,
      λ h. omega (arith, sum_none a.query.n a.query.weights (column a.columns.now a.m)),
      λ z h l. absurd (omega arith),
    )

pub loop-high-preserved : goal.loop-high-preserved
loop-high-preserved c =
    let l = c.loop-high in
    let a = c.args in
    let rises = sum_rises a.query.n a.query.weights (column a.columns.now a.m) in
    (omega arith, omega (arith, l.invariant.1), l.invariant.2, λ z h m. omega (arith, c.sum_at.ensures, rises _ z h))
