-- `fennelrake_closeness` meets its contract. Assumes nothing.
use native.Mathlib.Omega.{arith}
use mathlib.Core.Path.{refl}
use borrow.Author.Rules.{rules}
use Rattle.fennelrake.proofs.AnswerLaws.{closeness_accepted}
use Rattle.fennelrake.proofs.fennelrake_closeness.Goals as goal

pub returns-in-Ok : goal.returns-in-Ok
returns-in-Ok c = (
  closeness_accepted c.in-Ok.close (omega arith) (search rules) (search rules) c.put_big.ensures c.put_big-in-Ok.ensures
      (rw c.in-Ok.is at c.closeness.ensures.0),
  refl,
)
