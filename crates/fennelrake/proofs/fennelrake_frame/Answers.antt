-- `fennelrake_frame` meets its contract. Assumes nothing.
use native.Mathlib.Omega.{arith}
use borrow.Author.Rules.{rules}
use Rattle.fennelrake.proofs.AnswerLaws.{frame_accepted}
use Rattle.fennelrake.proofs.fennelrake_frame.Goals as goal

pub returns-in-Ok : goal.returns-in-Ok
returns-in-Ok c =
    frame_accepted c.in-Ok.reply (omega arith) (search rules) (search rules) c.put_big.ensures c.put_big-in-Ok.ensures
    (rw c.in-Ok.is at c.frame.ensures)
