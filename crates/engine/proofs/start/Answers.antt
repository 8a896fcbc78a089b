-- `start` meets its contract. Assumes nothing.
use mathlib.Core.Path.{sym}
use Rattle.engine.proofs.StartLaws.{out_of_range, not_lent, start_right}
use Rattle.engine.proofs.start.Goals as goal

pub returns-then-not-in_range : goal.returns-then-not-in_range
returns-then-not-in_range c = out_of_range _ _ _ (sym c.if-not-in_range.ensures)

pub returns-in_default : goal.returns-in_default
returns-in_default c = not_lent _ _ _ (sym c.if-not-in_range.ensures) c.in_default.ensures.cases

pub returns : goal.returns
returns c =
    let lent = c.in-Some.ensures.cases in
    start_right _ _ _ (sym c.if-not-in_range.ensures) lent.long (rw (c.fill.ensures.after (λ y e. e), lent.same, lent.long)) c.put.ensures c.put-2.ensures
