-- The table of squares that an impact is found from. Document 02, T-03. Assumes nothing.
use Rattle.std.specs.Prelude.{ℕ, zero, suc, ◌*◌, ◌≤◌, List, [], ◌∷◌, get_or}
use Rattle.paper.specs.Impact.{top}

-- the squares of k numbers from i on
unfoldable pub squares_from : ℕ → ℕ → List ℕ
squares_from i zero = []
squares_from i (suc k) = i * i ∷ squares_from (suc i) k

-- "a table of the squares of 0 to" the top
abbrev pub square_table : List ℕ
square_table = squares_from 0 (suc top)

-- "the greatest place whose entry, as w², meets the impact rule", for a count f in a message whose counts squared sum to n
pub record GreatestPlace (f n w : ℕ) : Type 0 where
  pub in_table : w ≤ top
  pub meets : get_or square_table w 0 * n ≤ (top * f) * (top * f)
  pub greatest : (v : ℕ) → v ≤ top → get_or square_table v 0 * n ≤ (top * f) * (top * f) → v ≤ w

-- a place is divided into so many parts, and the whole scale into so many
abbrev pub fine : ℕ
fine = 720720

abbrev pub reach : ℕ
reach = fine * top
