-- `take_bits`'s loops. Assumes nothing.
use Prim.Native.Nat.{◌*◌, ◌-◌}
use mathlib.Core.Path.{◌≡◌}
use Rattle.wire.specs.Field.{field}
use Rattle.wire.proofs.take_bits.Given as goal

abbrev pub invariant-loop-i : goal.invariant-loop-i
invariant-loop-i l = l.acc ≡ field l.s (8 * l.first) (8 * (l.i - l.first))
