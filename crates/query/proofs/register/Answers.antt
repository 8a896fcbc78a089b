-- `register` meets its contract. Assumes nothing.
use Rattle.query.proofs.RegisterLaws.{registered}
use borrow.Author.Rules.{rules}
use Rattle.query.proofs.register.Goals as goal

pub returns : goal.returns
returns c = search (rules, registered)
