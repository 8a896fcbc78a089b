-- What the functions of closeness ensure. Assumes nothing.
use Rattle.std.specs.Prelude.{ℕ, ◌-◌, ◌*◌, ◌/◌, ◌%◌, ◌^◌, ◌≤◌, ◌<◌, min, max, ◌≡◌, List, get_or}
use Rattle.paper.specs.Frame.{Pairs, count_width, most_pairs, most_terms}
use Rattle.paper.specs.Window.{Message}
use Rattle.paper.specs.Rank as Rank
use Rattle.paper.specs.Sound.{Terms}
use Rattle.paper.specs.Closeness.{whole, closeness}
use Rattle.paper.specs.Closeness as Paper
use Rattle.impact.specs.Cell.{cell_count, cell_with}
use Rattle.rank.specs.Weights.{most_weight}
use Rattle.window.specs.Slot.{Slot, stored}
use Rattle.candidates.specs.declared.query.Query.{Query}
use Rattle.query.specs.Post.{Is}
use Rattle.closeness.specs.declared.Closeness.{Closeness}

-- the count of a term in the message with these cells
abbrev pub count_among : List ℕ → ℕ → ℕ
count_among cs t = cell_count (cell_with t cs)

-- that of each of the query's terms
abbrev pub Counts : List ℕ → Query → List ℕ → Type 0
Counts cs q fs = (i : ℕ) → i < q.n → get_or fs i 0 ≡ count_among cs (get_or q.terms i 0)

-- the most that weight × count, and weight × weight, sum to over a query's terms: 30,600 and 1,800
abbrev pub most_shared : ℕ
most_shared = most_terms * (most_weight * (2 ^ count_width - 1))

abbrev pub most_weight_squares : ℕ
most_weight_squares = most_terms * (most_weight * most_weight)

-- the division, whatever the sums are: by 1 where there is nothing to divide by, and cut at the whole
pub record Divided (s a b : ℕ) (r : Closeness) : Type 0 where
  pub quotient : r.quotient ≡ min (whole * (s * s) / max (a * b) 1) whole
  pub remainder : r.remainder ≡ whole * (s * s) % max (a * b) 1

abbrev pub told_of : Closeness → Paper.Closeness
told_of r = record { quotient = r.quotient; remainder = r.remainder }

-- of a slot that holds a message, and for a query, it is the paper's closeness
pub record SlotCloseness (x : Slot) (q : Query) (r : Closeness) : Type 0 where
  pub most : r.quotient ≤ whole
  pub right : (m : Message) (query : Rank.Query) → x ≡ stored m → Pairs count_width most_pairs m.pairs → Terms query → Is q query
      → told_of r ≡ closeness query.terms m.pairs
