-- `judge_pairs` meets its contract. Assumes nothing.
use Prim.Native.Nat.{◌-◌, ◌^◌}
use native.Mathlib.Omega.{arith}
use native.Mathlib.Nat.{sub-zero}
use mathlib.Core.Bool.{Bool}
use mathlib.Core.Path.{◌≡◌, sym, ap, ◌∙◌}
use mathlib.Core.Logic.{inl, inr}
use lib.ListN.{length, drop, get_or}
use borrow.Author.Tests.{le-leb, lt-leb}
use Rattle.wire.proofs.BitLaws.{one_shl}
use Rattle.frame.specs.Read.{pairs_number, judge_next, verdict}
use Rattle.paper.specs.Write.{side_by_side}
use Rattle.frame.specs.Write.{sound_pair, pairs_verdict}
use Rattle.frame.proofs.PairLaws.{judged_from, judged_all, in_limits, within_all, beside_turn, beside_none}
use Rattle.frame.proofs.judge_pairs.Goals as goal

pub returns-then-terms-pairs : goal.returns-then-terms-pairs
unfolding pairs_verdict pairs_number
returns-then-terms-pairs c =
    let a = c.args in
    elim c.then-terms-pairs.either [
      | inl few ↦ rw (lt-leb a.pairs (length a.terms.now) few)
      | inr both ↦ rw (le-leb a.pairs (length a.terms.now) both.0, lt-leb a.pairs (length a.amounts.now) both.1)
    ]

pub loop-i-init : goal.loop-i-init
unfolding pairs_verdict
loop-i-init c =
    let a = c.args in
    let ps = side_by_side a.pairs a.terms.now a.amounts.now in
    record {
      terms = omega arith;
      amounts = omega arith;
      left =
          rw (sub-zero a.pairs, le-leb a.pairs (length a.terms.now) (omega arith), le-leb a.pairs (length a.amounts.now) (omega arith))
          (judged_all (in_limits a.width) ps ∙ ap (λ (t : Bool). pairs_number t ps) (within_all a.width ps));
    }

pub loop-i-preserved : goal.loop-i-preserved
loop-i-preserved c =
    let l = c.loop-i in
    let a = c.args in
    let term = get_or a.terms.now l.i 0 in
    let amount = get_or a.amounts.now l.i 0 in
    let judged : verdict c.judge-judged.result ≡ judge_next (verdict l.judged) (sound_pair (2 ^ a.width) term amount) l.floor term =
    rw (← one_shl a.width 32 (omega arith), ← c.sound_pair-sound.ensures) c.judge-judged.ensures in
    record {
      terms = omega arith;
      amounts = omega arith;
      left =
          beside_turn a.terms.now a.amounts.now a.width a.pairs l.i (verdict l.judged) l.floor (verdict c.judge-judged.result) _
          (omega arith) (omega arith) (omega arith) l.invariant.left judged;
    }

pub returns : goal.returns
returns c =
    let l = c.loop-i in
    let a = c.args in
    ap (judged_from (in_limits a.width) (verdict l.judged) l.floor)
    (sym (beside_none (a.pairs - l.i) (drop l.i a.terms.now) (drop l.i a.amounts.now) (omega arith)))
    ∙ l.invariant.left
