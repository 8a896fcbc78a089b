-- `walk_to` meets its contract. Assumes nothing.
use native.Mathlib.Omega.{arith}
use mathlib.Core.Path.{sym, ◌∙◌}
use Rattle.window.proofs.WalkLaws.{seek_none, seek_here, seek_next}
use Rattle.window.proofs.walk_to.Goals as goal

pub returns-then-serial_in-serial : goal.returns-then-serial_in-serial
returns-then-serial_in-serial c =
    let t = c.in-Some.ensures.steps in
    (sym (rw t.1 at c.loop-j.invariant) ∙ seek_here _ _ _ _ t.0 c.serial_in.ensures (omega arith), omega arith)

pub loop-j-preserved : goal.loop-j-preserved
loop-j-preserved c =
    let t = c.in-Some.ensures.steps in
    rw t.3 (seek_next _ _ _ _ t.0 c.serial_in.ensures (λ e. omega arith) t.2 ∙ rw t.1 at c.loop-j.invariant)

pub returns : goal.returns
returns c = sym c.loop-j.invariant ∙ seek_none _ _ _ _ (omega (arith, c.in-None.ensures.steps))
