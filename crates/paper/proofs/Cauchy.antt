-- The inequality of Cauchy and Schwarz in whole numbers, for sums of any length, and when it is an equation. Assumes nothing.
use Prim.Native.Nat.{ℕ, zero, suc, ◌+◌, ◌*◌, ◌-◌, ◌≤◌, ◌<◌}
use native.Mathlib.Nat.{not-suc-le-zero, le_refl}
use native.Mathlib.Omega.{arith}
use mathlib.Core.Path.{◌≡◌, refl, ap}
use mathlib.Core.Bool.{Bool, true, false}
use lib.Dec.{leb, eqb}
use borrow.Author.Tests.{leb-true, leb-false, eqb-true, eqb-false}

-- ---- two numbers

-- twice their product is at most their squares together, and as much only where they are the same
abbrev Squares : ℕ → ℕ → Type 0
Squares x y = (2 * (x * y) ≤ x * x + y * y) × (x * x + y * y ≤ 2 * (x * y) → x ≡ y)

no_square : (d : ℕ) → d * d ≤ 0 → d ≡ 0
no_square zero h = refl
no_square (suc d) h = absurd (omega arith)

pub squares_above : (x y : ℕ) → Squares x y
squares_above x y = go (leb x y) refl
  where
    up : (x d : ℕ) → Squares x (x + d)
    up x d = (omega arith, λ h. let z = no_square d (omega arith) in omega arith)

    down : (y d : ℕ) → Squares (y + d) y
    down y d = (omega arith, λ h. let z = no_square d (omega arith) in omega arith)

    go : (b : Bool) → leb x y ≡ b → Squares x y
    go true e =
        let h = leb-true x y e in
        let s : x + (y - x) ≡ y = omega arith in
        rw s at (up x (y - x))
    go false e =
        let h = leb-false x y e in
        let s : y + (x - y) ≡ x = omega arith in
        rw s at (down y (x - y))

-- ---- sums

-- the sum of what a function gives to the numbers below n
unfoldable pub sum : (ℕ → ℕ) → ℕ → ℕ
sum g zero = 0
sum g (suc n) = g n + sum g n

module _ (f w : ℕ → ℕ) where
  abbrev A : ℕ → ℕ
  A n = sum (λ t. f t * f t) n

  abbrev B : ℕ → ℕ
  B n = sum (λ t. w t * w t) n

  abbrev S : ℕ → ℕ
  S n = sum (λ t. w t * f t) n

  -- one pair of numbers, x and y, beside the first n of both functions
  module _ (x y : ℕ) where
    abbrev Beside : ℕ → Type 0
    Beside n = 2 * (x * y * S n) ≤ x * x * A n + y * y * B n

    beside : (n : ℕ) → Beside n
    unfolding sum
    beside zero = omega arith
    beside (suc n) = let ih = beside n in let s = (squares_above (x * f n) (y * w n)).0 in omega arith

    beside_equal : (n : ℕ) → x * x * A n + y * y * B n ≤ 2 * (x * y * S n) → (t : ℕ) → t < n → x * f t ≡ y * w t
    unfolding sum
    beside_equal zero e t h = absurd (not-suc-le-zero h)
    beside_equal (suc n) e t h =
        let s = squares_above (x * f n) (y * w n) in
        let b = beside n in
        go (eqb t n) refl (s.1 (omega (arith, s.0))) (beside_equal n (omega (arith, s.0)) t)
      where
        go : (c : Bool) → eqb t n ≡ c → x * f n ≡ y * w n → (t < n → x * f t ≡ y * w t) → x * f t ≡ y * w t
        go true c here before = let z = eqb-true t n c in rw z here
        go false c here before = let z = eqb-false t n c in before (omega arith)

    equal_beside : (n : ℕ) → ((t : ℕ) → t < n → x * f t ≡ y * w t) → x * x * A n + y * y * B n ≡ 2 * (x * y * S n)
    unfolding sum
    equal_beside zero e = omega arith
    equal_beside (suc n) e =
        let ih = equal_beside n (λ t h. e t (omega arith)) in
        let p : x * f n * (x * f n) ≡ x * f n * (y * w n) = ap (λ (z : ℕ). x * f n * z) (e n (le_refl (suc n))) in
        let q : y * w n * (x * f n) ≡ y * w n * (y * w n) = ap (λ (z : ℕ). y * w n * z) (e n (le_refl (suc n))) in
        omega arith

  -- (Σ w f)² ≤ Σ f² × Σ w²
  pub cauchy : (n : ℕ) → S n * S n ≤ A n * B n
  unfolding sum
  cauchy zero = omega arith
  cauchy (suc n) = let ih = cauchy n in let b = beside (w n) (f n) n in omega arith

  -- each two places are in proportion
  abbrev pub AllAlike : ℕ → Type 0
  AllAlike n = (t t' : ℕ) → t < n → t' < n → f t * w t' ≡ f t' * w t

  -- and it is an equation exactly where all places are in proportion
  pub alike_equal : (n : ℕ) → AllAlike n → S n * S n ≡ A n * B n
  unfolding sum
  alike_equal zero a = refl
  alike_equal (suc n) a =
      let ih = alike_equal n (λ t t' h h'. a t t' (omega arith) (omega arith)) in
      let b = equal_beside (w n) (f n) n (λ t h. let z = a t n (omega arith) (le_refl (suc n)) in omega arith) in
      omega arith

  pub equal_alike : (n : ℕ) → A n * B n ≤ S n * S n → AllAlike n
  unfolding sum
  equal_alike zero e t t' h h' = absurd (not-suc-le-zero h)
  equal_alike (suc n) e t t' h h' =
      let c = cauchy n in
      let b = beside (w n) (f n) n in
      go (eqb t n) refl (eqb t' n) refl (beside_equal (w n) (f n) n (omega arith)) (equal_alike n (omega arith) t t')
    where
      go : (a : Bool) → eqb t n ≡ a → (b : Bool) → eqb t' n ≡ b → ((t : ℕ) → t < n → w n * f t ≡ f n * w t)
          → (t < n → t' < n → f t * w t' ≡ f t' * w t) → f t * w t' ≡ f t' * w t
      go true p true q last before = rw (eqb-true t n p, eqb-true t' n q)
      go true p false q last before =
          let z = eqb-false t' n q in
          let l = last t' (omega arith) in
          rw (eqb-true t n p) (omega arith)
      go false p true q last before =
          let z = eqb-false t n p in
          let l = last t (omega arith) in
          rw (eqb-true t' n q) (omega arith)
      go false p false q last before =
          let y = eqb-false t n p in
          let z = eqb-false t' n q in
          before (omega arith) (omega arith)
