-- `place`'s loops. Assumes nothing.
use Prim.Native.Nat.{◌-◌}
use Rattle.impact.proofs.Places.{Search}
use Rattle.impact.proofs.place.Given as goal

abbrev pub invariant-loop-low : goal.invariant-loop-low
invariant-loop-low l = Search l.last l.most l.low l.high

abbrev pub decreases-loop-low : goal.decreases-loop-low
decreases-loop-low l = l.high - l.low
