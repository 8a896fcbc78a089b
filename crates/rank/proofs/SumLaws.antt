-- Weighted sums and exceeded thresholds: one place more, how large they get, and a value that rises. Assumes nothing.
use Prim.Native.Nat.{ℕ, zero, suc, ◌+◌, ◌*◌, ◌≤◌, ◌<◌, suc-le-suc}
use native.Mathlib.Nat.{le_of_suc-le-suc, not-suc-le-zero, mul-le-mul, mul-add}
use native.Mathlib.Numerals.{add-one}
use native.Mathlib.Omega.{arith}
use mathlib.Core.Path.{◌≡◌, sym}
use mathlib.Core.Bool.{Bool, ◌||◌, or_assoc, or-false}
use mathlib.Core.List.{List, [], ◌∷◌}
use lib.ListN.{length, get_or, set}
use lib.Dec.{ltb}
use Rattle.rank.specs.Weights.{weight_limit, most_weight, Below, weighted_sum, exceeding}

-- ---- sums

-- no weight is above fifteen, and no value above `most`
module _ (most : ℕ) where
  pub product_most : (w v : ℕ) → w < weight_limit → v ≤ most → w * v ≤ most_weight * most
  product_most w v hw hv = mul-le-mul {n₂ = most_weight} {m₂ = most} (omega arith) hv

  pub sum_most : (n : ℕ) (ws vs : List ℕ) → Below n weight_limit ws → Below n (suc most) vs → weighted_sum n ws vs ≤ n * (most_weight * most)
  unfolding weighted_sum
  sum_most zero ws vs bw bv = omega arith
  sum_most (suc n) [] vs bw bv = omega arith
  sum_most (suc n) (w ∷ ws) [] bw bv = omega arith
  sum_most (suc n) (w ∷ ws) (v ∷ vs) bw bv =
      let h = product_most w v (bw 0 (omega arith)) (omega (arith, bv 0 (omega arith))) in
      let ih = sum_most n ws vs (λ i h. bw (suc i) (suc-le-suc h)) (λ i h. bv (suc i) (suc-le-suc h)) in
      omega arith

sum_suc : (i : ℕ) (ws vs : List ℕ) → i < length ws → i < length vs → weighted_sum (suc i) ws vs ≡ weighted_sum i ws vs + get_or ws i 0 * get_or vs i 0
unfolding weighted_sum
sum_suc i [] vs hw hv = absurd (not-suc-le-zero hw)
sum_suc i (w ∷ ws) [] hw hv = absurd (not-suc-le-zero hv)
sum_suc zero (w ∷ ws) (v ∷ vs) hw hv = omega arith
sum_suc (suc i) (w ∷ ws) (v ∷ vs) hw hv = let ih = sum_suc i ws vs (le_of_suc-le-suc hw) (le_of_suc-le-suc hv) in omega arith

-- a turn of the loop of `weighted`
pub sum_turn : (i : ℕ) (ws vs : List ℕ) → i < length ws → i < length vs → weighted_sum (i + 1) ws vs ≡ weighted_sum i ws vs + get_or ws i 0 * get_or vs i 0
sum_turn i ws vs hw hv = rw add-one (sum_suc i ws vs hw hv)

-- one value rises
pub sum_rise : (n i up : ℕ) (ws vs : List ℕ) → i < n → i < length ws → i < length vs
    → weighted_sum n ws (set vs i (get_or vs i 0 + up)) ≡ weighted_sum n ws vs + get_or ws i 0 * up
unfolding weighted_sum
sum_rise zero i up ws vs hn hw hv = absurd (not-suc-le-zero hn)
sum_rise (suc n) i up [] vs hn hw hv = absurd (not-suc-le-zero hw)
sum_rise (suc n) i up (w ∷ ws) [] hn hw hv = absurd (not-suc-le-zero hv)
sum_rise (suc n) zero up (w ∷ ws) (v ∷ vs) hn hw hv = rw (mul-add w v up) (omega arith)
sum_rise (suc n) (suc i) up (w ∷ ws) (v ∷ vs) hn hw hv =
    let ih = sum_rise n i up ws vs (le_of_suc-le-suc hn) (le_of_suc-le-suc hw) (le_of_suc-le-suc hv) in omega arith

-- ---- exceeded thresholds

exceeding_suc : (i : ℕ) (hs vs : List ℕ) → i < length hs → i < length vs
    → exceeding (suc i) hs vs ≡ (exceeding i hs vs || ltb (get_or hs i 0) (get_or vs i 0))
unfolding exceeding
exceeding_suc i [] vs hh hv = absurd (not-suc-le-zero hh)
exceeding_suc i (h ∷ hs) [] hh hv = absurd (not-suc-le-zero hv)
exceeding_suc zero (h ∷ hs) (v ∷ vs) hh hv = or-false (ltb h v)
exceeding_suc (suc i) (h ∷ hs) (v ∷ vs) hh hv =
    rw (exceeding_suc i hs vs (le_of_suc-le-suc hh) (le_of_suc-le-suc hv)) (sym (or_assoc (ltb h v) (exceeding i hs vs) (ltb (get_or hs i 0) (get_or vs i 0))))

-- a turn of the loop of `exceeds`
pub exceeding_turn : (i : ℕ) (hs vs : List ℕ) → i < length hs → i < length vs → {a b : Bool} → a ≡ exceeding i hs vs
    → b ≡ (a || ltb (get_or hs i 0) (get_or vs i 0)) → b ≡ exceeding (i + 1) hs vs
exceeding_turn i hs vs hh hv e f = rw (f, e, add-one) (sym (exceeding_suc i hs vs hh hv))
