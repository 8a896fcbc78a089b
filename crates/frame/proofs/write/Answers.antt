-- `write` meets its contract. Assumes nothing.
use native.Mathlib.Omega.{arith}
use mathlib.Core.Path.{sym, ◌∙◌}
use Rattle.paper.specs.Frame.{Fields}
use Rattle.frame.specs.Write.{fields}
use Rattle.frame.proofs.ReadLaws.{passed_on, not_empty}
use Rattle.frame.proofs.WriteLaws.{Given, Counted, narrow, grade_failed, fit_failed, few, pairs_failed, lent, room_failed, put_done, unknown_post}
use Rattle.frame.proofs.write.Goals.{Start, After-values_of-values, After-pairs_taken-m}
use Rattle.frame.proofs.write.Goals as goal

abbrev handed : Start → Fields
handed c = let a = c.args in fields a.kind a.time a.serial a.urgency a.number a.k a.pairs a.terms.now a.amounts.now

given : (c : After-values_of-values) → Given (handed (goal.at.After-values_of-values c).Start) c.row_of-row.result c.values_of-values.result
given c = record {
  row = c.row_of-row.ensures;
  has = not_empty c.row_of-row.result.widths.now c.if-is_empty.ensures;
  post = c.values_of-values.ensures c.args.terms.now c.args.amounts.now;
}

pub returns-then-is_empty : goal.returns-then-is_empty
returns-then-is_empty c =
    unknown_post (handed (goal.at.returns-then-is_empty c).Start) c.row_of-row.result c.args.out.now c.row_of-row.ensures c.if-is_empty.ensures

pub returns-then-not-graded : goal.returns-then-not-graded
returns-then-not-graded c =
    grade_failed (given (goal.at.returns-then-not-graded c).After-values_of-values) c.args.out.now (sym c.graded.ensures ∙ c.if-not-graded.true)

pub fit-requires : goal.fit-requires
fit-requires c = narrow (given (goal.at.fit-requires c).After-values_of-values)

pub returns-then-not-fit : goal.returns-then-not-fit
returns-then-not-fit c =
    let g = given (goal.at.returns-then-not-fit c).After-values_of-values in
    fit_failed g c.args.out.now (sym c.graded.ensures ∙ c.if-not-graded.false) (sym c.fit.ensures ∙ c.if-not-fit.true)

counted : (c : After-pairs_taken-m)
    → Counted (handed (goal.at.After-pairs_taken-m c).Start) c.row_of-row.result c.values_of-values.result c.pairs_taken-m.result
counted c = record {
  given = given (goal.at.After-pairs_taken-m c).After-values_of-values;
  grades = sym c.graded.ensures ∙ c.if-not-graded.false;
  fits = sym c.fit.ensures ∙ c.if-not-fit.false;
  said = c.pairs_taken-m.ensures;
}

pub judge_pairs-requires : goal.judge_pairs-requires
judge_pairs-requires c = let h = few (counted (goal.at.judge_pairs-requires c).After-pairs_taken-m) in omega arith

pub returns-in_err-judge_pairs : goal.returns-in_err-judge_pairs
returns-in_err-judge_pairs c =
    let e = c.in_err-judge_pairs.field-0.0 in
    rw (passed_on _ e c.from_residual.ensures.1)
    (pairs_failed (counted (goal.at.returns-in_err-judge_pairs c).After-pairs_taken-m) c.args.out.now e c.in_err-judge_pairs.ensures)

pub overflow_add-row : goal.overflow_add-row
overflow_add-row c = let h = few (counted (goal.at.overflow_add-row c).After-pairs_taken-m) in omega arith

pub overflow_mul-m : goal.overflow_mul-m
overflow_mul-m c = let h = few (counted (goal.at.overflow_mul-m c).After-pairs_taken-m) in omega arith

pub overflow_add-row-2 : goal.overflow_add-row-2
overflow_add-row-2 c = let h = few (counted (goal.at.overflow_add-row-2 c).After-pairs_taken-m) in omega arith

pub overflow_add-row-3 : goal.overflow_add-row-3
overflow_add-row-3 c = let h = few (counted (goal.at.overflow_add-row-3 c).After-pairs_taken-m) in omega arith

pub returns-then-out-row : goal.returns-then-out-row
returns-then-out-row c =
    room_failed (counted (goal.at.returns-then-out-row c).After-pairs_taken-m) c.args.out.now c.in_ok-judge_pairs.ensures (omega arith)

pub put-requires : goal.put-requires
put-requires c =
    let k = counted (goal.at.put-requires c).After-pairs_taken-m in
    let h = few k in
    let l = lent k c.args.out.now c.in_ok-judge_pairs.ensures in
    let n = narrow k.given in
    record {
      bits_value = (rw c.row_of-row.ensures.widths c.row_of-row.ensures.bits, n.0, n.1);
      amount_bound = (omega arith, l.0, l.1);
      amount_bound_2 = (omega arith, omega arith);
    }

pub returns : goal.returns
returns c =
    put_done (counted (goal.at.returns c).After-pairs_taken-m) c.args.out.now c.in_ok-judge_pairs.ensures c.put.new.out c.put.result (omega arith) c.put.ensures
