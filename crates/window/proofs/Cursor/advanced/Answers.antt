-- `Cursor::advanced` meets its contract: dropping what is past gives the same answer from each slot on that the loop comes to. Assumes nothing.
use native.Mathlib.Omega.{arith}
use mathlib.Core.Path.{◌∙◌}
use Rattle.window.proofs.RingLaws.{moved_step}
use Rattle.window.proofs.WalkLaws.{past_stop, past_go, past_none}
use Rattle.window.proofs.Cursor.advanced.Goals as goal

pub loop-self-preserved : goal.loop-self-preserved
loop-self-preserved c =
    let l = c.loop-self.invariant in (
      l.0,
      moved_step (omega arith) l.1 (omega arith) c.following-self.ensures,
      past_go _ _ _ (omega arith) _ _ c.time_in-time.ensures c.is_past.ensures c.if-not-is_past.false
          c.following-self.ensures
          ∙ l.2,
    )

pub returns-after-loop-self : goal.returns-after-loop-self
returns-after-loop-self c = let l = c.loop-self.invariant in record { clock_is = l.0; moved = l.1; shows = past_none _ _ _ (omega arith) _ _ ∙ l.2 }

pub returns-then-not-is_past : goal.returns-then-not-is_past
returns-then-not-is_past c =
    let l = c.loop-self.invariant in
    record {
      clock_is = l.0;
      moved = l.1;
      shows = past_stop _ _ _ (omega arith) _ _ c.time_in-time.ensures c.is_past.ensures c.if-not-is_past.true ∙ l.2;
    }
