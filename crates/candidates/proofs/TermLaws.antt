-- The terms of a query with their weights: what stands in arrays side by side. Assumes nothing.
use Prim.Native.Nat.{ℕ, zero, suc, ◌<◌}
use native.Mathlib.Nat.{not-suc-le-zero, le_of_suc-le-suc}
use native.Mathlib.Omega.{arith}
use mathlib.Core.Path.{◌≡◌, refl}
use mathlib.Core.List.{List, [], ◌∷◌}
use lib.ListN.{length, get_or}
use Rattle.paper.specs.Threshold.{term_at, weight_at}
use Rattle.paper.specs.Write.{side_by_side}

pub side_at : (n : ℕ) (ts us : List ℕ) (i : ℕ) → i < length (side_by_side n ts us)
    → (i < n) × (term_at (side_by_side n ts us) i ≡ get_or ts i 0) × (weight_at (side_by_side n ts us) i ≡ get_or us i 0) × (i < length ts)
unfolding side_by_side term_at weight_at
side_at zero ts us i h = absurd (not-suc-le-zero h)
side_at (suc n) [] us i h = absurd (not-suc-le-zero h)
side_at (suc n) (t ∷ ts) [] i h = absurd (not-suc-le-zero h)
side_at (suc n) (t ∷ ts) (u ∷ us) zero h = (omega arith, refl, refl, omega arith)
side_at (suc n) (t ∷ ts) (u ∷ us) (suc i) h = let r = side_at n ts us i (le_of_suc-le-suc h) in (omega arith, r.1, r.2, omega (arith, r.3))
