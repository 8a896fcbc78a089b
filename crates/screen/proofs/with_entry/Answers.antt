-- `with_entry` meets its contract. Assumes nothing.
use native.Mathlib.Omega.{arith}
use mathlib.Core.Path.{refl}
use Rattle.screen.proofs.WaitLaws.{choosing_none, choosing_kept, choosing_passed}
use Rattle.screen.proofs.with_entry.Goals as goal
use Rattle.screen.proofs.with_entry.Goals.{then-i-listed, else-i-listed}

pub loop-j-init : goal.loop-j-init
loop-j-init c = choosing_none (omega arith) (omega arith)

pub loop-j-preserved : goal.loop-j-preserved
loop-j-preserved c =
    let known = c.requires in
    let e = c.listed.ensures.1 in
    elim c.if-i-listed.branch [
      | then-i-listed w ↦ rw (w.queries-is, w.n-is) (choosing_kept known (omega arith) refl c.loop-j.invariant (omega arith))
      | else-i-listed w ↦ rw (w.queries-is, w.n-is) (choosing_passed known (omega arith) refl c.loop-j.invariant (omega arith))
    ]
