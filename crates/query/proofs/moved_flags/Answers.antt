-- `moved_flags` meets its contract. Assumes nothing.
use native.Mathlib.Omega.{arith}
use Rattle.query.specs.Record.{flags}
use Rattle.query.proofs.MoveLaws.{flags_moved, none_moved}
use Rattle.query.proofs.moved_flags.Goals as goal

pub returns-in-Some : goal.returns-in-Some
unfolding flags
returns-in-Some c =
    rw c.in-Some.is
    (flags_moved _ _ _ (rw (← c.load-flags.ensures) c.without-later.ensures) c.without_one-rest.ensures _ _ (omega arith) c.with_flag.ensures)

pub returns-in-None : goal.returns-in-None
unfolding flags
returns-in-None c =
    rw c.in-None.is (none_moved _ _ _ (rw (← c.load-flags.ensures) c.without-later.ensures) c.without_one-rest.ensures (omega arith))
