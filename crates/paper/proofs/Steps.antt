-- The steps of a search by numbers alone: how many postings are read until the sum of the next ones falls below a score. Assumes nothing.
use Prim.Native.Nat.{ℕ, zero, suc, ◌+◌, ◌*◌}
use mathlib.Core.Bool.{cond}
use mathlib.Core.List.{List, [], ◌∷◌, map}
use lib.Dec.{ltb}
use Rattle.paper.specs.Search.{highest_at, without}

-- the first of a list, 0 where there is none
unfoldable pub front : List ℕ → ℕ
front [] = 0
front (v ∷ vs) = v

unfoldable pub sum : List ℕ → ℕ
sum [] = 0
sum (v ∷ vs) = v + sum vs

-- a weight times each impact, list by list
unfoldable pub weighed : List ℕ → List (List ℕ) → List (List ℕ)
weighed [] ls = []
weighed (w ∷ ws) [] = []
weighed (w ∷ ws) (l ∷ ls) = map (λ v. w * v) l ∷ weighed ws ls

-- with n left: as long as the first of all lists sum to at least s, the highest of them is read
unfoldable pub steps : ℕ → ℕ → List (List ℕ) → ℕ
steps zero s vss = 0
steps (suc n) s vss = cond (ltb (sum (map front vss)) s) 0 (suc (steps n s (without (highest_at (map front vss)) vss)))
