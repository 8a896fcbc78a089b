-- A table with a place for each term: the greatest impact that some messages have in it. Assumes nothing.
use Rattle.std.specs.Prelude.{ℕ, ◌^◌, ◌<◌, max, ◌≡◌, cond, List, [], ◌∷◌, get_or, eqb}
use Rattle.paper.specs.Frame.{term_width}
use Rattle.impact.specs.Cell.{cell_term, cell_impact}
use Rattle.window.specs.Slot.{Slot}

-- how many terms there are
abbrev pub term_limit : ℕ
term_limit = 2 ^ term_width

-- the greatest impact of a term among some cells, 0 where none has the term
unfoldable pub highest : ℕ → List ℕ → ℕ
highest t [] = 0
highest t (c ∷ cs) = max (cond (eqb (cell_term c) t) (cell_impact c) 0) (highest t cs)

-- and among the messages in some slots
unfoldable pub greatest : ℕ → List Slot → ℕ
greatest t [] = 0
greatest t (x ∷ xs) = max (highest t x.cells) (greatest t xs)

-- what a table gives a term
abbrev pub entry_of : List ℕ → ℕ → ℕ
entry_of table t = get_or table t 0

-- every entry becomes the greater of itself and what the cells have
pub record Raised (cs table table' : List ℕ) : Type 0 where
  pub is : (t : ℕ) → t < term_limit → entry_of table' t ≡ max (entry_of table t) (highest t cs)

-- and what the messages in the slots have
pub record RaisedBy (xs : List Slot) (table table' : List ℕ) : Type 0 where
  pub is : (t : ℕ) → t < term_limit → entry_of table' t ≡ max (entry_of table t) (greatest t xs)

-- the table of the messages in the slots
pub record TableOf (xs : List Slot) (table : List ℕ) : Type 0 where
  pub is : (t : ℕ) → t < term_limit → entry_of table t ≡ greatest t xs
