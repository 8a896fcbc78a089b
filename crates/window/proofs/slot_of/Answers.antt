-- `slot_of` meets its contract. Assumes nothing.
use native.Mathlib.Omega.{arith}
use mathlib.Core.Path.{sym, ◌∙◌}
use Rattle.window.proofs.WalkLaws.{seek_none, seek_run}
use Rattle.window.proofs.slot_of.Goals as goal

pub loop-left-preserved : goal.loop-left-preserved
loop-left-preserved c =
    (omega arith, seek_run _ _ _ _ _ (omega arith) (omega arith) c.serial_among.ensures c.if-serial_among.false ∙ c.loop-left.invariant.1)

pub returns : goal.returns
returns c = sym c.loop-left.invariant.1 ∙ seek_none _ _ _ _ (omega arith)
