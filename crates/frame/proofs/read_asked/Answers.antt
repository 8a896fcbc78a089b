-- `read_asked` meets its contract. Assumes nothing.
use mathlib.Core.Path.{ap, sym, ◌∙◌}
use Rattle.paper.specs.Frame.Shape.{refused}
use Rattle.frame.proofs.AskLaws.{asked_refused, asked_other, asked_register}
use Rattle.frame.proofs.read_asked.Goals as goal

pub returns-in_default : goal.returns-in_default
returns-in_default c = asked_other c.args.bytes.now c.in-Ok.parsed c.in-Ok.ensures c.in_default.not-Register

pub returns : goal.returns
returns c = asked_register c.args.bytes.now c.in-Ok.parsed c.in-Ok.ensures _ _ _ _ c.in-Register.is

pub returns-in-Err : goal.returns-in-Err
returns-in-Err c = asked_refused c.args.bytes.now _ c.in-Err.ensures ∙ ap refused (sym c.asked_refusal.ensures)
