-- `closeness` meets its contract. Assumes nothing.
use native.Mathlib.Omega.{arith}
use mathlib.Core.Path.{refl}
use Rattle.frame.proofs.ReadLaws.{passed_on}
use Rattle.memory.specs.Words.{words}
use Rattle.engine.proofs.RepresentsLaws.{registered_below}
use Rattle.engine.proofs.ClosenessLaws.{closeness_above, closeness_unknown, closeness_unused, closeness_right}
use Rattle.engine.proofs.closeness.Goals as goal

pub returns-then-serial-ge-SERIALS : goal.returns-then-serial-ge-SERIALS
returns-then-serial-ge-SERIALS c = (closeness_above _ _ _ c.in-Some.ensures.cases.long (omega arith), refl)

pub returns-in_default-slot_of : goal.returns-in_default-slot_of
returns-in_default-slot_of c =
    let lent = c.in-Some.ensures.cases in
    (closeness_unknown _ _ _ lent.long (omega arith) (rw lent.same at c.load-cursor.ensures) (rw lent.same at c.in_default-slot_of.ensures), refl)

pub returns-in_err-q : goal.returns-in_err-q
returns-in_err-q c =
    let lent = c.in-Some.ensures.cases in
    let free = rw lent.same at c.in_err-q.ensures in (
      rw (passed_on c.from_residual.result c.in_err-q.field-0.0 c.from_residual.ensures.1, free.0)
          (closeness_unused _ _ _ lent.long (omega arith) (rw lent.same at c.load-cursor.ensures) (rw lent.same at c.in-Some-slot_of.ensures) free.1 refl),
      refl,
    )

pub load_query-requires : goal.load_query-requires
load_query-requires c =
    let used = c.in_ok-q.ensures in
    omega (arith, used.0, registered_below (words c.in-Some.state.now) c.args.number used.1)

pub of-requires : goal.of-requires
of-requires c =
    let fit = c.load_query.ensures.in_range in
    (c.in-Some-slot_of.ensures.1, λ i l. fit.weights_most i (omega (arith, l, fit.n_most)))

pub returns : goal.returns
returns c =
    let lent = c.in-Some.ensures.cases in
    let used = rw lent.same at c.in_ok-q.ensures in (
      closeness_right _ _ _ lent.long (omega arith) (rw lent.same at c.load-cursor.ensures) (rw lent.same at c.in-Some-slot_of.ensures) used.1 refl
          (rw (lent.same, used.0) at c.load_query.ensures) (rw lent.same at c.of.ensures),
      refl,
    )
