-- `clear` meets its contract. Assumes nothing.
use Rattle.query.proofs.StoreLaws.{cleared}
use Rattle.query.proofs.clear.Goals as goal

pub returns : goal.returns
returns c = cleared c.store.ensures
