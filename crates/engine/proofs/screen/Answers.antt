-- `screen` meets its contract. Assumes nothing.
use native.Mathlib.Omega.{arith}
use mathlib.Core.Path.{refl}
use Rattle.engine.proofs.ScreenLaws.{share_most, screen_not_lent, screen_too_many, screen_no_room, screen_right}
use Rattle.engine.proofs.screen.Goals as goal

pub returns-in_default : goal.returns-in_default
returns-in_default c = (screen_not_lent _ _ _ c.in_default.ensures.cases, refl)

pub returns-then-lines-gt-MOST_LINES : goal.returns-then-lines-gt-MOST_LINES
returns-then-lines-gt-MOST_LINES c = (screen_too_many _ _ _ c.in-Some.ensures.cases.long (omega arith), refl)

pub returns-then-out-lines : goal.returns-then-out-lines
returns-then-out-lines c = (screen_no_room _ _ _ c.in-Some.ensures.cases.long (omega arith) (omega arith), refl)

pub overflow_cast-result : goal.overflow_cast-result
overflow_cast-result c = omega (arith, share_most c.share-placed.ensures)

pub returns : goal.returns
returns c =
    let lent = c.in-Some.ensures.cases in
    (screen_right _ _ _ lent.long (omega arith) (omega arith) (rw lent.same at c.share-placed.ensures), refl)
