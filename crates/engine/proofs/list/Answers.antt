-- `list` meets its contract. Assumes nothing.
use native.Mathlib.Omega.{arith}
use mathlib.Core.Path.{refl}
use Rattle.frame.proofs.ReadLaws.{passed_on}
use Rattle.memory.specs.Words.{words}
use Rattle.engine.proofs.ListLaws.{list_not_lent, list_unused, list_right}
use Rattle.engine.proofs.RepresentsLaws.{registered_below}
use Rattle.engine.proofs.list.Goals as goal

pub returns-in_default : goal.returns-in_default
returns-in_default c = list_not_lent _ _ c.in_default.ensures.cases

pub returns-in_err-q : goal.returns-in_err-q
returns-in_err-q c =
    let lent = c.in-Some.ensures.cases in
    let free = rw lent.same at c.in_err-q.ensures in
    rw (passed_on c.from_residual.result c.in_err-q.field-0.0 c.from_residual.ensures.1, free.0) (list_unused _ _ lent.long free.1 refl)

pub load_list-requires : goal.load_list-requires
load_list-requires c =
    let used = c.in_ok-q.ensures in
    omega (arith, used.0, registered_below (words c.in-Some.state.now) c.args.number used.1)

pub returns : goal.returns
returns c =
    let lent = c.in-Some.ensures.cases in
    let used = rw lent.same at c.in_ok-q.ensures in
    list_right _ _ lent.long used.1 refl (rw (lent.same, used.0) at c.load_list.ensures) c.of.ensures
