-- `take_pairs`'s loops. Assumes nothing.
use Prim.Native.Nat.{◌+◌, ◌*◌, ◌-◌}
use mathlib.Core.Path.{◌≡◌}
use Rattle.paper.specs.Frame.{pairs_at, positive}
use Rattle.frame.specs.Read.{term_array, amount_array, pairs_number, verdict}
use Rattle.frame.proofs.PairLaws.{judged_from, counted}
use Rattle.frame.proofs.take_pairs.Given as goal

abbrev pub invariant-loop-i : goal.invariant-loop-i
invariant-loop-i l = record {
  next : l.next ≡ l.at + l.i * (10 + l.width);
  terms : l.terms ≡ term_array (pairs_at l.bytes l.at l.width l.i);
  amounts : l.amounts ≡ amount_array (pairs_at l.bytes l.at l.width l.i);
  left :
      judged_from counted (verdict l.judged) l.least (pairs_at l.bytes l.next l.width (l.m - l.i))
      ≡ pairs_number (positive (pairs_at l.bytes l.at l.width l.m)) (pairs_at l.bytes l.at l.width l.m);
}
