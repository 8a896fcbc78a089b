-- `unregister` meets its contract. Assumes nothing.
use Rattle.engine.proofs.NumberLaws.{number_free, unregister_done}
use borrow.Author.Rules.{rules}
use Rattle.engine.proofs.unregister.Goals as goal

pub returns-then-not-in_use : goal.returns-then-not-in_use
returns-then-not-in_use c = search (rules, number_free)

pub returns : goal.returns
returns c = search (rules, unregister_done)
