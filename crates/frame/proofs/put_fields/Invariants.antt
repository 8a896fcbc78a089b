-- `put_fields`'s loops. Assumes nothing.
use Prim.Native.Nat.{◌+◌}
use mathlib.Core.Path.{◌≡◌}
use lib.ListN.{take}
use Rattle.wire.specs.Bits.{unpack}
use Rattle.wire.specs.Field.{total, spell}
use Rattle.frame.specs.Write.{laid}
use Rattle.frame.proofs.put_fields.Given as goal

abbrev pub invariant-loop-i : goal.invariant-loop-i
invariant-loop-i l =
    (l.next ≡ l.at + total (take l.i l.widths))
    × (unpack l.out ≡ laid l.initial.out l.at (spell (take l.i l.widths) (take l.i l.values)))
