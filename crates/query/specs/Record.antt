-- The record of a query in the state memory, and when it holds what it should. `w` is the state memory in words, `q` the query's number.
-- Assumes nothing.
use Rattle.std.specs.Prelude.{ℕ, ◌+◌, ◌*◌, ◌≤◌, ◌<◌, ◌≡◌, ◌&&◌, max, min, List, map, length, get_or, take, drop}
use Rattle.std.proofs.Math.Option.{Option, none, some}
use Rattle.paper.specs.Frame.{most_terms, most_listed}
use Rattle.paper.specs.Rank.{Query, Line, ranking}
use Rattle.paper.specs.Sort.{select}
use Rattle.paper.specs.Window.{Message}
use Rattle.paper.specs.Threshold.{Kept, Settled, term_at, weight_at}
use Rattle.rank.specs.Weights.{weight_limit}
use Rattle.rank.specs.Listing.{Keyed, keyed, keyed_with, listed, line_with, shown, ZeroFrom}
use Rattle.paper.specs.Layout.{flag_words, record_at, record_words, size_in, pairs_in, listed_in, thresholds_in, serials_in, keys_in, flags_in}
use Rattle.window.specs.Slot.{slot, ring}
use Rattle.candidates.specs.Match.{exceeds_cells}
use Rattle.candidates.specs.Flags.{flag_of, in_ring}

-- ---- its parts

-- how many terms it has, within what it has room for whatever memory says
abbrev pub size_of : List ℕ → ℕ → ℕ
size_of w q = max 1 (min (get_or w (size_in q) 0) most_terms)

unfoldable pub thresholds : List ℕ → ℕ → ℕ → List ℕ
thresholds w q n = take n (drop (thresholds_in q) w)

unfoldable pub flags : List ℕ → ℕ → List ℕ
flags w q = take flag_words (drop (flags_in q) w)

unfoldable pub keys : List ℕ → ℕ → List Keyed
keys w q = listed keyed_with (get_or w (listed_in q) 0) (take most_listed (drop (serials_in q) w)) (take most_listed (drop (keys_in q) w))

-- the list, as a reading shows it
abbrev pub list : List ℕ → ℕ → List Line
list w q = map shown (keys w q)

abbrev pub listed_at : List ℕ → ℕ → ℕ → Line
listed_at w q i = get_or (list w q) i (line_with 0 0)

-- the candidates by serial, in the order of acceptance: the flagged slots of the window, which is n slots from slot o on, as they are in w₀
unfoldable pub candidates : List ℕ → List ℕ → ℕ → ℕ → ℕ → List ℕ
candidates w₀ w q o n = map (λ j. (slot w₀ j).serial) (select (flag_of (flags w q)) (ring o n))

-- what is kept of a query of m terms, where slots are as they are in w₀ ..
abbrev pub held_of : List ℕ → List ℕ → ℕ → ℕ → ℕ → ℕ → Kept
held_of w₀ w q o n m = record { thresholds = thresholds w q m; candidates = candidates w₀ w q o n; list = list w q }

-- .. and in the same memory
abbrev pub kept_of : List ℕ → ℕ → ℕ → ℕ → ℕ → Kept
kept_of w q o n m = held_of w w q o n m

-- ---- when it holds what it should

-- the record says this query: all eight words of pairs, those past its terms 0
pub record Says (w : List ℕ) (q : ℕ) (query : Query) : Type 0 where
  pub k : get_or w (record_at q) 0 ≡ query.k
  pub size : get_or w (size_in q) 0 ≡ length query.terms
  pub pairs : (i : ℕ) → i < most_terms → get_or w (pairs_in q + i) 0 ≡ term_at query.terms i * weight_limit + weight_at query.terms i

-- it says this query, and what is kept is right for the messages in the window, whose slots are as they are in w₀, the list by its keys too; the places it
-- doesn't use are 0
pub record Held (w₀ w : List ℕ) (q o n : ℕ) (ms : List Message) (query : Query) : Type 0 where
  pub says : Says w q query
  pub settled : Settled query ms (held_of w₀ w q o n (length query.terms))
  pub ranked : keys w q ≡ keyed (ranking query ms)
  pub flagged : (j : ℕ)
      → flag_of (flags w q) j ≡ (in_ring o n j && exceeds_cells query.terms (thresholds w q (length query.terms)) (slot w₀ j).cells)
  pub no_threshold : (i : ℕ) → length query.terms ≤ i → i < most_terms → get_or w (thresholds_in q + i) 0 ≡ 0
  pub listed_most : get_or w (listed_in q) 0 ≤ most_listed
  pub no_serial : ZeroFrom (get_or w (listed_in q) 0) (take most_listed (drop (serials_in q) w))
  pub no_key : ZeroFrom (get_or w (listed_in q) 0) (take most_listed (drop (keys_in q) w))

-- the slots are in the same memory
abbrev pub Holds : List ℕ → ℕ → ℕ → ℕ → List Message → Query → Type 0
Holds w q o n ms query = Held w w q o n ms query

-- a number not in use has a record of zeros; `ms` is what each query sees
abbrev pub HeldAt : List ℕ → List ℕ → ℕ → ℕ → ℕ → (Query → List Message) → Option Query → Type 0
HeldAt w₀ w q o n ms none = (i : ℕ) → i < record_words → get_or w (record_at q + i) 0 ≡ 0
HeldAt w₀ w q o n ms (some query) = Held w₀ w q o n (ms query) query

abbrev pub HoldsAt : List ℕ → ℕ → ℕ → ℕ → (Query → List Message) → Option Query → Type 0
HoldsAt w q o n ms x = HeldAt w w q o n ms x

-- the same record, word for word
abbrev pub SameRecord : List ℕ → List ℕ → ℕ → Type 0
SameRecord w w' q = (i : ℕ) → i < record_words → get_or w' (record_at q + i) 0 ≡ get_or w (record_at q + i) 0
