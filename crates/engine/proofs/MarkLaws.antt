-- Laws of marks as bits of a number. Assumes nothing.
use Prim.Native.Nat.{ℕ, zero, suc, ◌+◌, ◌<◌, ◌^◌}
use native.Mathlib.Nat.{pow-succ', le_refl}
use native.Mathlib.Numerals.{add-one}
use native.Mathlib.Omega.{arith}
use mathlib.Core.Path.{◌≡◌, refl, sym, ap, ap₂, ◌∙◌}
use mathlib.Core.Bool.{Bool, true, false, cond, ◌||◌}
use lib.Dec.{eqb, ltb}
use borrow.Author.Tests.{eq-eqb, ne_eqb, ltb-true, ltb-false}
use Rattle.paper.specs.Demand3.{bitmap}

-- the marks are decided by the tests below n
pub bitmap_same : (f g : ℕ → Bool) (n : ℕ) → ((i : ℕ) → i < n → f i ≡ g i) → bitmap f n ≡ bitmap g n
unfolding bitmap
bitmap_same f g zero h = refl
bitmap_same f g (suc n) h = ap₂ (λ (b : Bool) (r : ℕ). cond b (2 ^ n) 0 + r) (h n (le_refl (suc n))) (bitmap_same f g n (λ i l. h i (omega arith)))

-- one more mark
pub bitmap_more : (f : ℕ → Bool) (q n : ℕ) → q < n → f q ≡ false → bitmap (λ i. eqb q i || f i) n ≡ bitmap f n + 2 ^ q
unfolding bitmap
bitmap_more f q zero l e = absurd (omega arith)
bitmap_more f q (suc n) l e = go (ltb q n) refl (λ h. bitmap_more f q n h e)
  where
    with_q : ℕ → Bool
    with_q i = eqb q i || f i

    go : (b : Bool) → ltb q n ≡ b → (q < n → bitmap with_q n ≡ bitmap f n + 2 ^ q)
        → cond (eqb q n || f n) (2 ^ n) 0 + bitmap with_q n ≡ cond (f n) (2 ^ n) 0 + bitmap f n + 2 ^ q
    go true t ih =
        let h : q < n = ltb-true q n t in
        rw (ne_eqb q n (λ s. omega arith), ih h) (omega arith)
    go false t ih =
        let s : q ≡ n = let k = ltb-false q n t in omega arith in
        let none : f n ≡ false = ap f (sym s) ∙ e in
        let rest : bitmap with_q n ≡ bitmap f n = bitmap_same with_q f n (λ i k. rw (ne_eqb q i (λ x. omega arith))) in
        rw (eq-eqb q n s, none, rest, s) (omega arith)

-- the marks of the first q numbers, and that of number q
pub bitmap_next : (f : ℕ → Bool) (q : ℕ) {r : Bool} {marks : ℕ} → r ≡ f q → marks ≡ bitmap f q → marks + cond r (2 ^ q) 0 ≡ bitmap f (q + 1)
unfolding bitmap
bitmap_next f q e m = rw (add-one, e, m) (omega arith)

pub marks_below : (q : ℕ) (r : Bool) {marks : ℕ} → marks < 2 ^ q → marks + cond r (2 ^ q) 0 < 2 ^ (q + 1)
marks_below q true h = rw (add-one, pow-succ' 2 q) (omega arith)
marks_below q false h = rw (add-one, pow-succ' 2 q) (omega arith)
