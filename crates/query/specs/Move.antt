-- What a frame moves, in numbers of slots: one past the last stands for none. Assumes nothing.
use Rattle.std.specs.Prelude.{ℕ, Option, None, Some}
use Rattle.paper.specs.Layout.{slots}
use Rattle.query.specs.declared.moves.Arrived.{Arrived}
use Rattle.query.specs.declared.moves.Cancelled.{Cancelled}
use Rattle.query.specs.declared.moves.Move as moves

-- `departed` messages from slot `gone` on leave, and that of slot `cancelled` with this serial where there is one; the window is then `count` slots from
-- slot `first` on, and a message arrived in slot `newest` where that is one
pub record Move : Type 0 where
  pub gone : ℕ
  pub departed : ℕ
  pub first : ℕ
  pub count : ℕ
  pub newest : ℕ
  pub cancelled : ℕ
  pub serial : ℕ

abbrev pub arrived_slot : Option Arrived → ℕ
arrived_slot None = slots
arrived_slot (Some a) = a.slot

abbrev pub cancelled_slot : Option Cancelled → ℕ
cancelled_slot None = slots
cancelled_slot (Some c) = c.slot

abbrev pub cancelled_serial : Option Cancelled → ℕ
cancelled_serial None = 0
cancelled_serial (Some c) = c.serial

abbrev pub in_slots : moves.Move → Move
in_slots m = record {
  gone = m.gone.first;
  departed = m.gone.count;
  first = m.window.first;
  count = m.window.count;
  newest = arrived_slot m.newest;
  cancelled = cancelled_slot m.cancelled;
  serial = cancelled_serial m.cancelled;
}
