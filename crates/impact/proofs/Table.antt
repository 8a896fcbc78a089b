-- The table of squares: an entry by its rule, and the impact as a place of the table. Assumes nothing.
use Prim.Native.Nat.{ℕ, zero, suc, ◌+◌, ◌*◌, ◌≤◌, ◌<◌}
use native.Mathlib.Nat.{not-suc-le-zero, zero-add, add-zero, add-suc, suc-add}
use native.Mathlib.Omega.{arith}
use mathlib.Core.Path.{◌≡◌, refl}
use lib.ListN.{get_or}
use Rattle.paper.specs.Impact.{top, impact}
use Rattle.paper.proofs.ImpactLaws.{impact_most, impact_meets, impact_from}
use Rattle.impact.specs.Table.{squares_from, square_table, GreatestPlace}

entry_from : (i k j : ℕ) → j < k → get_or (squares_from i k) j 0 ≡ (i + j) * (i + j)
unfolding squares_from
entry_from i zero j h = absurd (not-suc-le-zero h)
entry_from i (suc k) zero h = rw add-zero refl
entry_from i (suc k) (suc j) h = rw (add-suc i j, ← suc-add i j) (entry_from (suc i) k j (omega arith))

pub entry : (j : ℕ) → j ≤ top → get_or square_table j 0 ≡ j * j
entry j h = rw zero-add at (entry_from 0 (suc top) j (omega arith))

pub impact_place : (f n : ℕ) → GreatestPlace f n (impact f n)
impact_place f n =
    record {
      in_table = impact_most f n;
      meets = rw (entry (impact f n) (impact_most f n)) (impact_meets f n);
      greatest = λ v h m. impact_from f n v h (rw (entry v h) at m);
    }
