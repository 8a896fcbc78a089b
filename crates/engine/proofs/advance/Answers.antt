-- `advance` meets its contract. Assumes nothing.
use Rattle.engine.proofs.KindLaws.{ticked_by}
use Rattle.engine.proofs.advance.Goals as goal

pub returns : goal.returns
returns c = search ticked_by
