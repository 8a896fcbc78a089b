-- `silence` meets its contract. Assumes nothing.
use native.Mathlib.Omega.{arith}
use mathlib.Core.Path.{refl}
use borrow.Author.Rules.{rules}
use Rattle.paper.specs.Layout.{slots}
use Rattle.memory.specs.Words.{words}
use Rattle.engine.proofs.ArrivingLaws.{raised_none}
use Rattle.engine.proofs.silence.Goals as goal

pub returns-in-None-clause-raised : goal.returns-in-None-clause-raised
returns-in-None-clause-raised c = rw c.in-None.is (search rules, raised_none (words c.args.state.now) slots (omega arith) refl)
