-- `judge_pairs`'s loops. Assumes nothing.
use Prim.Native.Nat.{◌-◌, ◌≤◌}
use mathlib.Core.Path.{◌≡◌}
use lib.ListN.{length, drop}
use Rattle.paper.specs.Write.{side_by_side}
use Rattle.frame.specs.Read.{verdict}
use Rattle.frame.specs.Write.{pairs_verdict}
use Rattle.frame.proofs.PairLaws.{judged_from, in_limits}
use Rattle.frame.proofs.judge_pairs.Given as goal

abbrev pub invariant-loop-i : goal.invariant-loop-i
invariant-loop-i l = record {
  terms : l.pairs ≤ length l.terms;
  amounts : l.pairs ≤ length l.amounts;
  left :
      judged_from (in_limits l.width) (verdict l.judged) l.floor (side_by_side (l.pairs - l.i) (drop l.i l.terms) (drop l.i l.amounts))
      ≡ pairs_verdict l.width l.pairs l.terms l.amounts;
}
