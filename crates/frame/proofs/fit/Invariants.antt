-- `fit`'s loops. Assumes nothing.
use mathlib.Core.Path.{◌≡◌}
use lib.ListN.{drop}
use Rattle.frame.specs.Write.{fitting}
use Rattle.frame.proofs.fit.Given as goal

abbrev pub invariant-loop-i : goal.invariant-loop-i
invariant-loop-i l = fitting (drop l.i l.widths) (drop l.i l.values) ≡ fitting l.widths l.values
