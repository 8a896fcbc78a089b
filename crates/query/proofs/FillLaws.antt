-- An array of eight filled from another, element by element: what holds after each turn, and at the end. Assumes nothing.
use Prim.Native.Nat.{ℕ, ◌≤◌, ◌<◌}
use native.Mathlib.Omega.{arith}
use mathlib.Core.Path.{◌≡◌}
use mathlib.Core.List.{List}
use lib.ListN.{length, get_or}

-- each of the first n elements of ys is what P allows for the one of xs
pub record Filled (P : ℕ → ℕ → Type 0) (n : ℕ) (xs ys : List ℕ) : Type 0 where
  pub wide : length ys ≡ 8
  pub each : (j : ℕ) → j < n → P (get_or xs j 0) (get_or ys j 0)

pub filled_all : {P : ℕ → ℕ → Type 0} {n : ℕ} {xs ys zs : List ℕ} → 8 ≤ n → xs ≡ zs → Filled P n xs ys → Filled P 8 zs ys
filled_all h e f = rw (← e) (record { wide = f.wide; each = λ j l. f.each j (omega arith) })
