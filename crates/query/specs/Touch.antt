-- What a record's terms have in a table of impacts, read off its words. Assumes nothing.
use Rattle.std.specs.Prelude.{ℕ, zero, suc, ◌+◌, ◌*◌, ◌/◌, ◌%◌, ◌<◌, ◌≡◌, Bool, false, ◌||◌, List, get_or, ltb}
use Rattle.paper.specs.Layout.{pairs_in, thresholds_in}
use Rattle.rank.specs.Listing.{score_limit}
use Rattle.rank.specs.Weights.{weight_limit}
use Rattle.window.specs.Table.{term_limit, entry_of}
use Rattle.query.specs.declared.Touch.{Touch}
use Rattle.query.specs.Record.{size_of}

module _ (w : List ℕ) (q : ℕ) (table : List ℕ) where
  -- what the table gives the record's i-th term
  abbrev pub found : ℕ → ℕ
  found i = entry_of table (get_or w (pairs_in q + i) 0 / weight_limit % term_limit)

  -- of the first n terms, the sum of weight × what the table gives
  unfoldable pub found_sum : ℕ → ℕ
  found_sum zero = 0
  found_sum (suc n) = found_sum n + get_or w (pairs_in q + n) 0 % weight_limit * found n

  -- and whether that is above the threshold for one of them
  unfoldable pub found_above : ℕ → Bool
  found_above zero = false
  found_above (suc n) = found_above n || ltb (get_or w (thresholds_in q + n) 0) (found n)

-- all of that, by the table of what comes and by that of what goes
pub record Touched (w : List ℕ) (q : ℕ) (coming going : List ℕ) (r : Touch) : Type 0 where
  pub comes : r.comes ≡ found_above w q coming (size_of w q)
  pub goes : r.goes ≡ found_above w q going (size_of w q)
  pub came : r.came ≡ found_sum w q coming (size_of w q)
  pub went : r.went ≡ found_sum w q going (size_of w q)
  pub small : r.came < score_limit
