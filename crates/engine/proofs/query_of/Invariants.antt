-- `query_of`'s loop. Assumes nothing.
use Prim.Native.Nat.{◌≤◌}
use mathlib.Core.Path.{◌≡◌}
use lib.ListN.{length, take}
use Rattle.engine.proofs.query_of.Given as goal

abbrev pub invariant-loop-i : goal.invariant-loop-i
invariant-loop-i l = (l.i ≤ 8)
    × (length l.few ≡ 8)
    × (length l.weighted ≡ 8)
    × (take l.i l.few ≡ take l.i l.terms)
    × (take l.i l.weighted ≡ take l.i l.weights)
