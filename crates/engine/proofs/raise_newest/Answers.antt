-- `raise_newest` meets its contract. Assumes nothing.
use native.Mathlib.Omega.{arith}
use mathlib.Core.Path.{refl}
use borrow.Author.Rules.{rules}
use Rattle.paper.specs.Layout.{slots}
use Rattle.memory.specs.Words.{words}
use Rattle.engine.proofs.ArrivingLaws.{raised_none}
use Rattle.engine.proofs.raise_newest.Goals as goal

pub returns-in-None : goal.returns-in-None
returns-in-None c = rw c.in-None.is (search rules, raised_none (words c.args.state.now) slots (omega arith) refl)
