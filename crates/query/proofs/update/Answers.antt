-- `update` meets its contract. Assumes nothing.
use Rattle.query.proofs.UpdateLaws.{unreached, changes, stands}
use Rattle.query.proofs.update.Goals as goal

pub returns-then-not-touch : goal.returns-then-not-touch
returns-then-not-touch c = unreached c.touched-touch.ensures c.if-not-touch.true

pub returns-then-score-touch : goal.returns-then-score-touch
returns-then-score-touch c =
    changes c.touched-touch.ensures c.if-not-touch.false c.moved_flags-flags.ensures c.least-bound.ensures c.change.ensures

pub returns-else-score-touch : goal.returns-else-score-touch
returns-else-score-touch c =
    stands c.touched-touch.ensures c.if-not-touch.false c.moved_flags-flags.ensures c.least-bound.ensures c.if-score-touch.false c.keep_list.ensures
