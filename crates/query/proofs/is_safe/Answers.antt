-- `is_safe` meets its contract. Assumes nothing.
use native.Mathlib.Omega.{arith}
use mathlib.Core.Path.{ap₂, ◌∙◌}
use lib.Dec.{ltb}
use Rattle.query.proofs.LiftLaws.{secure_zero, secure_short, secure_full}
use Rattle.query.proofs.is_safe.Goals as goal

pub returns-then-sum-eq0 : goal.returns-then-sum-eq0
returns-then-sum-eq0 c = let a = c.args in secure_zero a.query a.thresholds a.list (omega arith)

pub returns-then-list-query : goal.returns-then-list-query
returns-then-list-query c = let a = c.args in secure_short a.query a.thresholds a.list (omega arith) (omega arith)

pub returns : goal.returns
returns c =
    let a = c.args in
    ap₂ ltb c.weighted-sum.ensures c.last_score.ensures ∙ secure_full a.query a.thresholds a.list (omega arith) (omega arith)
