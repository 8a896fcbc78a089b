-- `cancel` meets its contract. Assumes nothing.
use native.Mathlib.Omega.{arith}
use mathlib.Core.Path.{refl}
use Rattle.engine.proofs.KindLaws.{unknown, cancel_done}
use Rattle.engine.proofs.cancel.Goals as goal

pub returns-in_default : goal.returns-in_default
returns-in_default c =
    let loaded = c.load-before.ensures in
    unknown loaded c.get-life.ensures c.advanced-after.ensures (omega arith) c.in_default.ensures

pub returns : goal.returns
returns c =
    let loaded = c.load-before.ensures in
    cancel_done loaded c.get-life.ensures c.advanced-after.ensures (omega arith) c.in-Some.ensures c.depart-reply.ensures refl refl
