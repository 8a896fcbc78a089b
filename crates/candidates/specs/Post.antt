-- Flags, and what a message in a slot is to a query. Assumes nothing.
use Rattle.std.specs.Prelude.{ℕ, ◌<◌, ◌≡◌, Bool, false, cond, List, [], ◌∷◌, take, get_or, eqb}
use Rattle.paper.specs.Frame.{Pair}
use Rattle.paper.specs.Order.{In}
use Rattle.paper.specs.Write.{side_by_side}
use Rattle.wire.specs.Bits.{bits}
use Rattle.impact.specs.Cell.{RisingTerms}
use Rattle.rank.specs.Listing.{Keyed, grown}
use Rattle.window.specs.Slot.{slot, ring}
use Rattle.candidates.specs.declared.query.Query.{Query}
use Rattle.candidates.specs.Match.{exceeds_cells, scored}
use Rattle.candidates.specs.Flags.{flag_of}

-- ---- a query

-- the query's terms with their weights
abbrev pub terms_of : Query → List Pair
terms_of q = side_by_side q.n q.terms q.weights

-- its terms rise, as those of any query do
abbrev pub Rising : Query → Type 0
Rising q = RisingTerms q.n q.terms

-- ---- flags

-- the word with bit k as given, and the flags with that of slot j
abbrev pub WithBit : ℕ → ℕ → Bool → ℕ → Type 0
WithBit word k b r = (i : ℕ) → i < 32 → get_or (bits 32 r) i false ≡ cond (eqb i k) b (get_or (bits 32 word) i false)

abbrev pub WithFlag : List ℕ → ℕ → Bool → List ℕ → Type 0
WithFlag fs j b r = (i : ℕ) → flag_of r i ≡ cond (eqb i j) b (flag_of fs i)

-- the flags without those of n slots from slot o on
pub record Without (fs : List ℕ) (o n : ℕ) (r : List ℕ) : Type 0 where
  pub gone : (i : ℕ) → In i (ring o n) → flag_of r i ≡ false
  pub others : (i : ℕ) → (In i (ring o n) → ⊥) → flag_of r i ≡ flag_of fs i

-- ---- messages in slots

-- whether slot j's message exceeds one of the thresholds
abbrev pub exceeds_in : List ℕ → Query → List ℕ → ℕ → Bool
exceeds_in w q hs j = exceeds_cells (terms_of q) (take q.n hs) (slot w j).cells

-- slot j's message in a list: its serial and key
abbrev pub line_in : List ℕ → Query → ℕ → Keyed
line_in w q j = scored (terms_of q) (slot w j)

-- a list with more lines put in, the earliest first
unfoldable pub grows : ℕ → List Keyed → List Keyed → List Keyed
grows k l [] = l
grows k l (e ∷ es) = grows k (grown k e l) es
