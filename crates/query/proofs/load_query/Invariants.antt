-- `load_query`'s loops. Assumes nothing.
use Rattle.query.proofs.FillLaws.{Filled}
use Rattle.query.proofs.QueryLaws.{Term, Weight}
use Rattle.query.proofs.load_query.Given as goal

abbrev pub invariant-loop-i : goal.invariant-loop-i
invariant-loop-i l = Filled Term l.i l.pairs l.terms × Filled Weight l.i l.pairs l.weights
