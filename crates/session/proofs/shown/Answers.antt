-- `shown` meets its contract. Assumes nothing.
use mathlib.Core.Path.{refl}
use Rattle.frame.proofs.ReadLaws.{refusal_pos}
use Rattle.session.proofs.TextLaws.{shown_unmarked, shown_unregistered, shown_registered}
use Rattle.session.proofs.shown.Goals as goal

pub returns-then-not-marked-clause-printed : goal.returns-then-not-marked-clause-printed
returns-then-not-marked-clause-printed c =
    let a = c.args in shown_unmarked a.state.now a.q a.at a.out.now a.marked c.if-not-marked.true

pub returns-in-Ok-clause-printed : goal.returns-in-Ok-clause-printed
returns-in-Ok-clause-printed c =
    let a = c.args in
    shown_registered a.state.now a.q a.at a.out.now a.marked c.if-not-marked.false _ c.in-Ok.ensures refl c.list-in-Ok.ensures.put

pub returns-in-Err-clause-printed : goal.returns-in-Err-clause-printed
returns-in-Err-clause-printed c =
    let a = c.args in
    shown_unregistered a.state.now a.q a.at a.out.now a.marked c.if-not-marked.false _ c.in-Err.ensures (refusal_pos c.in-Err.field-0)
