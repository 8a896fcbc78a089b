-- `put_round` meets its contract. Assumes nothing.
use native.Mathlib.Omega.{arith}
use mathlib.Core.Path.{refl}
use Rattle.screen.proofs.RoundLaws.{writing_none, writing_more}
use Rattle.screen.proofs.put_round.Goals as goal

pub loop-j-init : goal.loop-j-init
loop-j-init c = writing_none (omega arith)

pub loop-j-preserved : goal.loop-j-preserved
loop-j-preserved c =
    writing_more c.requires.in_bounds (omega arith) c.loop-j.invariant refl c.entry-shown.ensures c.put_line.ensures
