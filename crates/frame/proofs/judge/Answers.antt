-- `judge` meets its contract. Assumes nothing.
use native.Mathlib.Omega.{arith}
use borrow.Author.Tests.{ne_eqb, le-leb, lt-leb}
use Rattle.paper.specs.Refusal.{number_of}
use Rattle.frame.specs.Read.{judge_next}
use Rattle.frame.proofs.ReadLaws.{refusal_pos, passed_on}
use Rattle.frame.proofs.judge.Goals as goal

pub returns-then-not-sound : goal.returns-then-not-sound
unfolding judge_next
returns-then-not-sound c = rw c.if-not-sound.true

pub returns-in_err-before : goal.returns-in_err-before
unfolding judge_next
returns-in_err-before c =
    let e = c.in_err-before.field-0.0 in
    rw (passed_on _ e c.from_residual.ensures.1, c.if-not-sound.false, c.in_err-before.was, ne_eqb (number_of e) 0 (refusal_pos e))

pub returns-then-term-least : goal.returns-then-term-least
unfolding judge_next
returns-then-term-least c =
    let a = c.args in
    rw (c.if-not-sound.false, c.in_ok-before.was, lt-leb a.least a.term (omega arith))

pub returns : goal.returns
unfolding judge_next
returns c =
    let a = c.args in
    rw (c.if-not-sound.false, c.in_ok-before.was, le-leb a.least a.term (omega arith))
