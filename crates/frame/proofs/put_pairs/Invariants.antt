-- `put_pairs`'s loops. Assumes nothing.
use Prim.Native.Nat.{◌+◌, ◌*◌}
use mathlib.Core.Path.{◌≡◌}
use Rattle.wire.specs.Bits.{unpack}
use Rattle.frame.specs.Write.{laid, pair_bits}
use Rattle.frame.proofs.put_pairs.Given as goal

abbrev pub invariant-loop-i : goal.invariant-loop-i
invariant-loop-i l =
    (l.next ≡ l.at + l.i * (10 + l.width)) × (unpack l.out ≡ laid l.initial.out l.at (pair_bits l.width l.i l.terms l.amounts))
