-- Rows of impacts: one place for each of a query's terms, and the first for all other terms. A table says the place of each term. Assumes nothing.
use Rattle.std.specs.Prelude.{ℕ, ◌+◌, ◌^◌, ◌≤◌, ◌<◌, ◌≡◌, Bool, false, cond, ◌||◌, List, [], ◌∷◌, length, get_or, eqb, ltb}
use Rattle.paper.specs.Frame.{most_terms}
use Rattle.impact.specs.Cell.{impact_width, cell_term, cell_impact}

-- how many places a row has
abbrev pub row_width : ℕ
row_width = 1 + most_terms

-- what place p of a row has once the cells were put into it: the impact of the first cell whose term has this place, or what it had
unfoldable pub found : List ℕ → ℕ → List ℕ → ℕ → ℕ
found places p [] d = d
found places p (c ∷ cs) d = cond (eqb (get_or places (cell_term c) 0) p) (cell_impact c) (found places p cs d)

-- whether one of the cells has a term whose place isn't 0
unfoldable pub touches : List ℕ → List ℕ → Bool
touches places [] = false
touches places (c ∷ cs) = ltb 0 (get_or places (cell_term c) 0) || touches places cs

-- no value of the rows is more than an impact can be
abbrev pub Narrow : List ℕ → Type 0
Narrow rows = (i : ℕ) → get_or rows i 0 < 2 ^ impact_width

-- the cells are put into the row from `at` on, and nothing else changes
pub record LookedAt (cs places : List ℕ) (at : ℕ) (rows rows' : List ℕ) : Type 0 where
  pub long : length rows' ≡ length rows
  pub is : (p : ℕ) → p < row_width → get_or rows' (at + p) 0 ≡ found places p cs (get_or rows (at + p) 0)
  pub before : (i : ℕ) → i < at → get_or rows' i 0 ≡ get_or rows i 0
  pub after : (i : ℕ) → at + row_width ≤ i → get_or rows' i 0 ≡ get_or rows i 0
  pub narrow : Narrow rows → Narrow rows'
