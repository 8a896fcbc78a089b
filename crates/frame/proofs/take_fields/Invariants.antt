-- `take_fields`'s loops. Assumes nothing.
use Prim.Native.Nat.{◌+◌}
use mathlib.Core.Path.{◌≡◌}
use lib.ListN.{take}
use Rattle.wire.specs.Field.{total, scan}
use Rattle.frame.specs.Read.{padded}
use Rattle.frame.proofs.take_fields.Given as goal

abbrev pub invariant-loop-i : goal.invariant-loop-i
invariant-loop-i l = (l.next ≡ l.at + total (take l.i l.widths)) × (l.values ≡ padded 5 (scan l.bytes l.at (take l.i l.widths)))
