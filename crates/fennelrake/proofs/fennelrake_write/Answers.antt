-- `fennelrake_write` meets its contract. Assumes nothing.
use native.Mathlib.Omega.{arith}
use mathlib.Core.Path.{ap}
use Rattle.paper.specs.Frame.{Fields}
use Rattle.frame.specs.Write.{fields}
use Rattle.engine.specs.Told.{ToldCount}
use Rattle.fennelrake.specs.Entry.{terms_of}
use Rattle.fennelrake.proofs.TermLaws.{length_terms, write_heard}
use Rattle.fennelrake.proofs.fennelrake_write.Goals.{Start}
use Rattle.fennelrake.proofs.fennelrake_write.Goals as goal

abbrev handed : Start → Fields
handed c = let a = c.args in fields a.kind a.time a.serial a.urgency a.number a.k a.pairs (terms_of a.terms.now) a.amounts.now

pub returns-in-Ok : goal.returns-in-Ok
returns-in-Ok c =
    write_heard (handed (goal.at.returns-in-Ok c).Start) c.first_terms-first.ensures (omega (arith, c.min-count.ensures, length_terms c.args.terms.now))
    (omega arith) c.in-Ok.ensures

pub returns-in-Err : goal.returns-in-Err
returns-in-Err c =
    let number = ap (λ (r : ToldCount). r.number) c.told.ensures in
    let count = ap (λ (r : ToldCount). r.count) c.told.ensures in
    write_heard (handed (goal.at.returns-in-Err c).Start) c.first_terms-first.ensures (omega (arith, c.min-count.ensures, length_terms c.args.terms.now))
    (omega (arith, number, count)) c.in-Err.ensures
