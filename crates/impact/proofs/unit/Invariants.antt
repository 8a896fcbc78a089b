-- `unit`'s loops. Assumes nothing.
use Rattle.impact.specs.Table.{reach}
use Rattle.impact.proofs.Newton.{Guess, Above}
use Rattle.impact.proofs.unit.Given as goal

abbrev pub invariant-loop-guess : goal.invariant-loop-guess
invariant-loop-guess l = Guess reach l.most l.guess × Above l.most l.guess

abbrev pub decreases-loop-guess : goal.decreases-loop-guess
decreases-loop-guess l = l.guess
