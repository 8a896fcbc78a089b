-- `load_thresholds`'s loops. Assumes nothing.
use Rattle.query.proofs.FillLaws.{Filled}
use Rattle.query.proofs.QueryLaws.{Threshold}
use Rattle.query.proofs.load_thresholds.Given as goal

abbrev pub invariant-loop-i : goal.invariant-loop-i
invariant-loop-i l = Filled Threshold l.i l.words l.thresholds
