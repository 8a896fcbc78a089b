-- `take_pairs` meets its contract. Assumes nothing.
use Prim.Native.Nat.{◌+◌, ◌-◌}
use native.Mathlib.Omega.{arith}
use native.Mathlib.Nat.{zero-mul, add-zero, sub-zero}
use mathlib.Core.Bool.{Bool}
use mathlib.Core.List.{[]}
use mathlib.Core.Path.{◌≡◌, refl, sym, ap, ◌∙◌}
use Rattle.paper.specs.Frame.{pairs_at, positive}
use Rattle.frame.specs.Read.{pairs_number, verdict}
use Rattle.frame.proofs.PairLaws.{PairRead, judged_from, judged_all, counted, positive_all, pair_room, pair_next, pair_read, array_turn, number_turn}
use Rattle.frame.proofs.PairLaws.{pairs_none}
use Rattle.frame.proofs.ReadLaws.{passed_on}
use Rattle.frame.proofs.take_pairs.Goals.{After-low_bits-amount, After-loop-i}
use Rattle.frame.proofs.take_pairs.Goals as goal

-- a turn's pair
pair : (c : After-low_bits-amount) → PairRead c.args.bytes.now c.loop-i.next c.args.width c.high_bits-term.result c.low_bits-amount.result
pair c =
    let a = c.args in
    let next = c.loop-i.next in
    let room = pair_room a.at a.m c.loop-i.i (10 + a.width) next (omega arith) c.loop-i.invariant.next in
    pair_read a.bytes.now next a.width c.take_bits-both.result c.high_bits-term.result c.low_bits-amount.result
    (omega arith) (omega arith) c.take_bits-both.ensures c.high_bits-term.ensures c.low_bits-amount.ensures

-- what the loop has judged is the number of all
judged_number : (c : After-loop-i) → let a = c.args in
    verdict c.loop-i.judged ≡ pairs_number (positive (pairs_at a.bytes.now a.at a.width a.m)) (pairs_at a.bytes.now a.at a.width a.m)
judged_number c =
    let l = c.loop-i in
    let a = c.args in
    let none : pairs_at a.bytes.now l.next a.width (a.m - l.i) ≡ [] = pairs_none a.bytes.now l.next a.width (a.m - l.i) (omega arith) in
    ap (judged_from counted (verdict l.judged) l.least) (sym none) ∙ l.invariant.left

pub loop-i-init : goal.loop-i-init
unfolding pairs_at
loop-i-init c =
    let a = c.args in
    let ps = pairs_at a.bytes.now a.at a.width a.m in
    record {
      next = rw (zero-mul (10 + a.width), add-zero a.at);
      terms = refl;
      amounts = refl;
      left = rw (sub-zero a.m) (judged_all counted ps ∙ ap (λ (t : Bool). pairs_number t ps) (positive_all ps));
    }

pub overflow_cast-terms : goal.overflow_cast-terms
overflow_cast-terms c = let small = (pair (goal.at.overflow_cast-terms c).After-low_bits-amount).term_small in omega arith

pub overflow_add-least : goal.overflow_add-least
overflow_add-least c = let small = (pair (goal.at.overflow_add-least c).After-low_bits-amount).term_small in omega arith

pub loop-i-preserved : goal.loop-i-preserved
loop-i-preserved c =
    let p = pair (goal.at.loop-i-preserved c).After-low_bits-amount in
    let l = c.loop-i in
    let a = c.args in
    let s = a.bytes.now in
    let term = c.high_bits-term.result in
    let amount = c.low_bits-amount.result in
    record {
      next = pair_next a.at l.i (10 + a.width) l.next l.invariant.next;
      terms = array_turn s a.width l.i l.next (λ p. p.term) a.at l.terms term (omega arith) l.invariant.next l.invariant.terms p.term_is;
      amounts = array_turn s a.width l.i l.next (λ p. p.amount) a.at l.amounts amount (omega arith) l.invariant.next l.invariant.amounts p.amount_is;
      left =
          number_turn s a.width l.i l.next a.m (verdict l.judged) l.least term amount (verdict c.judge-judged.result) _ (omega arith)
          l.invariant.left p.term_is p.amount_is c.judge-judged.ensures;
    }

pub returns-in_err-judged : goal.returns-in_err-judged
returns-in_err-judged c =
    let number = judged_number (goal.at.returns-in_err-judged c).After-loop-i in
    rw (passed_on _ c.in_err-judged.field-0.0 c.from_residual.ensures.1) (rw c.in_err-judged.was at number, tt)

pub returns : goal.returns
returns c =
    let number = judged_number (goal.at.returns c).After-loop-i in
    let all : c.loop-i.i ≡ c.args.m = omega arith in
    (rw c.in_ok-judged.was at number, record { terms = rw (← all) c.loop-i.invariant.terms; amounts = rw (← all) c.loop-i.invariant.amounts })
