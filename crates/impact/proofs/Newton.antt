-- Newton's iteration for a root in whole numbers: no guess after a step is below the root, and where none falls any more the root is found.
-- Assumes nothing.
use Prim.Native.Nat.{ℕ, zero, suc, ◌+◌, ◌*◌, ◌/◌, ◌≤◌, ◌<◌, min}
use native.Mathlib.Nat.{
  add-mul,
  mul-add,
  div-one,
  not-suc-le-zero,
  lt-suc_self,
  le_refl,
  le_of_lt,
  lt_of_le_of_lt,
  lt_of_lt_of_le,
  not-le_of_lt,
  lt_of_not-le,
  le_of_suc-le-suc,
  mul-le-mul,
  mul-le-mul_right,
  min-eq_left,
  min-eq_right,
  div-lt_iff_lt-mul,
}
use native.Mathlib.Omega.{arith}
use mathlib.Core.Path.{◌≡◌, refl, ◌∙◌}
use mathlib.Core.Bool.{Bool, true, false}
use lib.Dec.{leb}
use borrow.Author.Tests.{leb-true, leb-false}
use Rattle.paper.proofs.Cauchy.{squares_above}

-- ---- squares and products

pub unless_below : {v w : ℕ} → (w < v → ⊥) → v ≤ w
unless_below f = le_of_suc-le-suc (lt_of_not-le f)

-- the next square is greater
square_less : (w : ℕ) → w * w < (w + 1) * (w + 1)
square_less w = let a = add-mul w 1 (w + 1) in let b = mul-add w w 1 in omega arith

-- a number is at most another whose square is as great
pub root_most : (v w : ℕ) → v * v ≤ w * w → v ≤ w
root_most v w h =
    unless_below (λ l. not-le_of_lt (lt_of_lt_of_le (square_less w) (mul-le-mul {n₂ = v} {m₂ = v} (omega arith) (omega arith))) h)

-- ---- a step

-- the mean of a guess and what it leaves of x, but at most `cap`
abbrev pub step : ℕ → ℕ → ℕ → ℕ
step cap x r = min ((r + x / r) / 2) cap

-- what a step may start from
abbrev pub Guess : ℕ → ℕ → ℕ → Type 0
Guess cap x r = (x ≤ cap * cap) × (0 < r) × (r ≤ cap)

-- one more than the guess is above the root
abbrev pub Above : ℕ → ℕ → Type 0
Above x r = x < (r + 1) * (r + 1)

-- r * r + (x / r + 1) * r is at most r * m twice, where m is one more than the mean, and so at most r * r + m * m
mean_above : (x r : ℕ) → 0 < r → Above x ((r + x / r) / 2)
mean_above x r h =
    let m : ℕ = (r + x / r) / 2 + 1 in
    let next : x < suc (x / r) * r = (div-lt_iff_lt-mul h).0 (lt-suc_self (x / r)) in
    let less : (r + suc (x / r)) * r ≤ (m + m) * r = mul-le-mul_right r (omega arith) in
    let p = (squares_above m r).0 in
    let s : r * r + suc (x / r) * r ≤ m * r + m * r = rw (← add-mul r (suc (x / r)) r, ← add-mul m m r) less in
    lt_of_lt_of_le next (omega arith)

mean_positive : (x r : ℕ) → 0 < x → 0 < r → 0 < (r + x / r) / 2
mean_positive x zero p h = absurd (not-suc-le-zero h)
mean_positive x (suc zero) p h = rw (div-one x) (omega arith)
mean_positive x (suc (suc r)) p h = omega arith

pub stepped : {cap x r q : ℕ} → 0 < x → Guess cap x r → q ≡ step cap x r → Guess cap x q × Above x q
stepped {cap} {x} {r} {q} p g e = go (leb mean cap) refl
  where
    mean : ℕ
    mean = (r + x / r) / 2

    go : (b : Bool) → leb mean cap ≡ b → Guess cap x q × Above x q
    go true t =
        let l = leb-true mean cap t in
        let m : q ≡ mean = e ∙ min-eq_left l in
        rw m ((g.0, mean_positive x r p g.1, l), mean_above x r g.1)
    go false t =
        let l = leb-false mean cap t in
        let m : q ≡ cap = e ∙ min-eq_right (le_of_lt l) in
        rw m ((g.0, let a = g.1 in let b = g.2 in omega arith, le_refl cap), lt_of_le_of_lt g.0 (square_less cap))
