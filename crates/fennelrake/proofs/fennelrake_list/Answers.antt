-- `fennelrake_list` meets its contract. Assumes nothing.
use native.Mathlib.Omega.{arith}
use lib.Seq.{length-take-le}
use borrow.Author.Rules.{rules}
use Rattle.fennelrake.specs.Entry.{list_answer}
use Rattle.fennelrake.proofs.AnswerLaws.{list_accepted}
use Rattle.fennelrake.proofs.fennelrake_list.Goals as goal

pub returns-in-Ok : goal.returns-in-Ok
returns-in-Ok c =
    list_accepted c.put_list.new.answer _ c.in-Ok.list (omega arith)
    (omega (arith, length-take-le list_answer c.args.answer.now (omega arith))) (search rules) (search rules)
    c.put_list.ensures (rw c.in-Ok.is at c.list.ensures)
