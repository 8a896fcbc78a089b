-- Thresholds and candidates, and when what is kept of a query is right.
-- Document 01, "Thresholds"; demand 3. Assumes nothing.
use Rattle.std.specs.Prelude.{ℕ, ◌+◌, ◌*◌, ◌≤◌, ◌<◌, ◌≡◌, Bool, false, ◌||◌, List, [], ◌∷◌, length, get_or, ltb}
use Rattle.paper.specs.Frame.{Pair}
use Rattle.paper.specs.Window.{Message}
use Rattle.paper.specs.Impact.{top, impact_in}
use Rattle.paper.specs.Sort.{select}
use Rattle.paper.specs.Rank.{Query, Entry, Line, ranking, lines, serials}

-- "The threshold sum is the sum of weight × threshold."
unfoldable pub threshold_sum : List Pair → List ℕ → ℕ
threshold_sum [] hs = 0
threshold_sum (q ∷ qs) [] = 0
threshold_sum (q ∷ qs) (h ∷ hs) = q.amount * h + threshold_sum qs hs

-- "an impact strictly above the threshold in some query term", whatever gives a term's impact
unfoldable pub exceeds_by : (ℕ → ℕ) → List Pair → List ℕ → Bool
exceeds_by impacts [] hs = false
exceeds_by impacts (q ∷ qs) [] = false
exceeds_by impacts (q ∷ qs) (h ∷ hs) = ltb h (impacts q.term) || exceeds_by impacts qs hs

-- whether a message has one
abbrev pub exceeds : List Pair → List ℕ → List Pair → Bool
exceeds qs hs ps = exceeds_by (impact_in ps) qs hs

-- "Candidates are the messages in force with an impact strictly above the threshold in some query term."
abbrev pub candidates : List Pair → List ℕ → List Message → List Message
candidates qs hs ms = select (λ m. exceeds qs hs m.pairs) ms

-- "A query is reached by a frame if an arriving or departing message exceeds one of its thresholds"
unfoldable pub reached : List Pair → List ℕ → List Message → Bool
reached qs hs [] = false
reached qs hs (m ∷ ms) = exceeds qs hs m.pairs || reached qs hs ms

-- the score of the last listed entry: of a full list the k-th
unfoldable pub last_score : List Entry → ℕ
last_score [] = 0
last_score (e ∷ []) = e.score
last_score (e ∷ x ∷ xs) = last_score (x ∷ xs)

-- a query's term and its weight, by their place
unfoldable pub term_at : List Pair → ℕ → ℕ
term_at qs i = (get_or qs i (record { term = 0; amount = 0 })).term

unfoldable pub weight_at : List Pair → ℕ → ℕ
weight_at qs i = (get_or qs i (record { term = 0; amount = 0 })).amount

-- "an impact above its threshold in one of its terms", of a message with these pairs: the term by its place
abbrev pub Exceeds : List Pair → List ℕ → List Pair → Type 0
Exceeds qs hs ps = (i : ℕ) × (i < length qs) × (get_or hs i 0 < impact_in ps (term_at qs i))

-- "the threshold sum is strictly below the k-th score, and adding one to any threshold below 1,000", the top, "would bring the sum to that score or over"
pub record Tight (qs : List Pair) (hs : List ℕ) (kth : ℕ) : Type 0 where
  pub safe : threshold_sum qs hs < kth
  pub tight : (i : ℕ) → i < length qs → get_or hs i 0 < top → kth ≤ threshold_sum qs hs + weight_at qs i

-- What an engine keeps of a query: a threshold for each term, the candidates by serial in the order of acceptance, and the list.
pub record Kept : Type 0 where
  pub thresholds : List ℕ
  pub candidates : List ℕ
  pub list : List Line

-- What is kept of a query is right for these messages in force.
pub record Settled (q : Query) (ms : List Message) (kept : Kept) : Type 0 where
  pub one_each : length kept.thresholds ≡ length q.terms
  pub in_scale : (i : ℕ) → get_or kept.thresholds i 0 ≤ top
  pub ranked : kept.list ≡ lines (ranking q ms)
  pub above : kept.candidates ≡ serials (candidates q.terms kept.thresholds ms)
  pub full : length (ranking q ms) ≡ q.k → Tight q.terms kept.thresholds (last_score (ranking q ms))
  pub short : length (ranking q ms) < q.k → (i : ℕ) → get_or kept.thresholds i 0 ≡ 0
