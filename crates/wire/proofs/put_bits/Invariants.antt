-- `put_bits`'s loops. Assumes nothing.
use mathlib.Core.Path.{◌≡◌}
use Prim.Native.Nat.{◌+◌, ◌*◌, ◌≤◌, ◌<◌}
use lib.ListN.{length}
use Rattle.wire.specs.Bits.{unpack}
use Rattle.wire.proofs.Chunk.{written}
use Rattle.wire.proofs.put_bits.Given as goal

abbrev pub invariant-loop-left : goal.invariant-loop-left
invariant-loop-left l = (l.left ≤ l.width) × (l.k < 8) × (8 * l.q + l.k + l.left ≡ l.at + l.width) × (length l.s ≡ length l.initial.s)
    × (unpack l.s ≡ written l.initial.s l.at l.width l.value l.left)

abbrev pub decreases-loop-left : goal.decreases-loop-left
decreases-loop-left l = l.left
