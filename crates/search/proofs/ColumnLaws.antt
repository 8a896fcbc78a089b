-- Columns of impacts: gone through from the first to the last, and summed term by term. Assumes nothing.
use Prim.Native.Nat.{ℕ, ◌+◌, ◌*◌, ◌≤◌, ◌<◌, max}
use native.Mathlib.Nat.{mul-le-mul}
use native.Mathlib.Numerals.{add-one}
use native.Mathlib.Omega.{arith}
use mathlib.Core.Path.{◌≡◌}
use mathlib.Core.Bool.{cond}
use mathlib.Core.List.{List, [], ◌∷◌}
use lib.ListN.{length, get_or, take}
use lib.Seq.{take-suc}
use lib.Dec.{leb}
use borrow.Author.Tests.{lt-ltb, le-ltb}
use Rattle.search.specs.Cut.{cap, up_to, over, sum_at, read_at}
use Rattle.search.proofs.SumLaws.{up_to_append, over_append}

-- ---- one impact more

module _ (xs : List ℕ) (i c : ℕ) (l : i < length xs) where
  pub up_to_turn : {best best' v : ℕ} → best ≡ up_to c (take i xs) → v ≡ cond (leb (get_or xs i 0) c) (get_or xs i 0) 0 → best' ≡ max best v
      → best' ≡ up_to c (take (i + 1) xs)
  unfolding up_to
  up_to_turn e f g = rw (add-one i, take-suc xs i 0 l) (omega (arith, e, f, g, up_to_append c (take i xs) (get_or xs i 0 ∷ [])))

  pub over_hit : {n : ℕ} → n ≡ over c (take i xs) → c < get_or xs i 0 → n + 1 ≡ over c (take (i + 1) xs)
  unfolding over
  over_hit e h =
      let more = over_append c (take i xs) (get_or xs i 0 ∷ []) in
      rw (add-one i, take-suc xs i 0 l) (omega (arith, e, rw (lt-ltb c (get_or xs i 0) h) at more))

  pub over_miss : {n : ℕ} → n ≡ over c (take i xs) → get_or xs i 0 ≤ c → n ≡ over c (take (i + 1) xs)
  unfolding over
  over_miss e h =
      let more = over_append c (take i xs) (get_or xs i 0 ∷ []) in
      rw (add-one i, take-suc xs i 0 l) (omega (arith, e, rw (le-ltb c (get_or xs i 0) h) at more))

-- ---- one term more

module _ (ws : List ℕ) (impacts : ℕ → List ℕ) (x p : ℕ) where
  abbrev cap_here : ℕ
  cap_here = cap x p (get_or ws p 0)

  pub sum_turn : {s v : ℕ} → s ≡ sum_at p ws impacts x → v ≡ up_to cap_here (impacts p) → s + get_or ws p 0 * v ≡ sum_at (p + 1) ws impacts x
  unfolding sum_at
  sum_turn e f = rw (add-one p, e, f)

  pub read_turn : {n k : ℕ} → n ≡ read_at p ws impacts x → k ≡ over cap_here (impacts p) → n + k ≡ read_at (p + 1) ws impacts x
  unfolding read_at
  read_turn e f = rw (add-one p, e, f)

-- a weight of four bits times sixteen bits
pub product_most : (w v : ℕ) → w < 16 → v < 65536 → w * v ≤ 1048576
product_most w v h l = mul-le-mul {n₂ = 16} {m₂ = 65536} (omega arith) (omega arith)
