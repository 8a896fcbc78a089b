-- `register` meets its contract. Assumes nothing.
use Rattle.engine.proofs.NumberLaws.{register_done}
use borrow.Author.Rules.{rules}
use Rattle.engine.proofs.register.Goals as goal

pub returns : goal.returns
returns c = search (rules, register_done)
