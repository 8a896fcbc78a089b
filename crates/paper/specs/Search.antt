-- A search asked for once: the postings of a query's terms are read from the highest weight × impact down, until no message that wasn't seen could be
-- listed. Document 001, section 2.1, and document 02, T-05. Assumes nothing.
use Rattle.std.specs.Prelude.{ℕ, zero, suc, ◌+◌, ◌*◌, max, Bool, cond, ◌&&◌, List, [], ◌∷◌, ◌++◌, map, length, get_or, take, eqb, leb, ltb}
use Rattle.std.proofs.Math.Option.{Option, none, some}
use Rattle.wire.specs.Field.{field}
use Rattle.paper.specs.Frame.{Pair, Shape, kind_width, shape_of_kind}
use Rattle.paper.specs.Frame.Frame.{message, tick, register, unregister, cancel}
use Rattle.paper.specs.Frame.Shape.{refused, accepted}
use Rattle.paper.specs.Window.{Message}
use Rattle.paper.specs.Sort.{select}
use Rattle.paper.specs.Rank.{Query, Entry, ranking, postings}
use Rattle.paper.specs.Threshold.{threshold_sum, last_score}
use Rattle.paper.specs.Log.{Log, seen, has_serial, lent}

-- ---- the postings left to read: those of each query term, in their order

abbrev pub postings_of : List Pair → List Message → List (List Entry)
postings_of qs ms = map (λ p. postings p.term ms) qs

-- how many they are
unfoldable pub count_in : {A : Type 0} → List (List A) → ℕ
count_in [] = 0
count_in (l ∷ left) = length l + count_in left

-- the impact of a term's next posting, "an exhausted term giving 0"
abbrev pub next : List Entry → ℕ
next [] = 0
next (e ∷ es) = e.score

-- ---- a step "reads the next posting with the highest weight × impact, lower term first among equals"

-- weight × impact of each term's next posting
unfoldable pub products : List Pair → List ℕ → List ℕ
products [] hs = []
products (q ∷ qs) [] = []
products (q ∷ qs) (h ∷ hs) = q.amount * h ∷ products qs hs

unfoldable pub highest : List ℕ → ℕ
highest [] = 0
highest (v ∷ vs) = max v (highest vs)

-- the place of the highest, the first among equals: a query's terms rise
unfoldable pub highest_at : List ℕ → ℕ
highest_at [] = 0
highest_at (v ∷ vs) = cond (leb (highest vs) v) 0 (suc (highest_at vs))

abbrev pub next_at : List Pair → List (List Entry) → ℕ
next_at qs left = highest_at (products qs (map next left))

-- the lists once the first of the list at a place is read
unfoldable pub without : {A : Type 0} → ℕ → List (List A) → List (List A)
without p [] = []
without zero ([] ∷ left) = [] ∷ left
without zero ((e ∷ l) ∷ left) = l ∷ left
without (suc p) (l ∷ left) = l ∷ without p left

-- ---- the end

-- the messages of postings
abbrev pub messages_of : List Entry → List Message
messages_of es = map (λ e. e.of) es

-- "a message is seen when a posting of it is read": of the messages in force, in the order of acceptance, those of the postings read
abbrev pub seen_by : List Entry → List Message → List Message
seen_by es ms = select (λ m. has_serial m.serial (messages_of es)) ms

-- "as soon as k messages have been seen and the k-th best score is strictly above the sum of weight × impact of the next postings"
unfoldable pub ends : Query → List Message → List (List Entry) → List Entry → Bool
ends q ms left es =
    leb q.k (length (seen_by es ms))
    && ltb (threshold_sum q.terms (map next left)) (last_score (ranking q (seen_by es ms)))

-- ---- the search

-- the list of the messages seen, and the postings read
pub record Outcome : Type 0 where
  pub list : List Entry
  pub read : ℕ

abbrev pub outcome : Query → List Message → List Entry → Outcome
outcome q ms es = record { list = ranking q (seen_by es ms); read = length es }

-- the search with n postings left, after those read: the end is tried before each step, "or when all terms are exhausted" it ends
unfoldable pub search_on : ℕ → Query → List Message → List (List Entry) → List Entry → Outcome
search_on zero q ms left es = outcome q ms es
search_on (suc n) q ms left es =
    let p = next_at q.terms left in
    cond (ends q ms left es) (outcome q ms es) (search_on n q ms (without p left) (take 1 (get_or left p []) ++ es))

unfoldable pub search : Query → List Message → Outcome
search q ms = search_on (count_in (postings_of q.terms ms)) q ms (postings_of q.terms ms) []

-- ---- asking

-- "It comes as a register frame, judged by .. 1 to 6 with every kind but 3 refused as 2"
unfoldable pub asked : List ℕ → Shape
asked s = cond (ltb (length s) 5) (refused 1) (cond (eqb (field s 0 kind_width) 3) (shape_of_kind 3 s) (refused 2))

abbrev pub refusal_of : Shape → ℕ
refusal_of (refused r) = r
refusal_of (accepted f) = 0

-- 12 first. `needed` is how many bytes the answer takes where it is written into lent ones, else 0.
unfoldable pub judge_search : ℕ → List ℕ → ℕ → ℕ → ℕ
judge_search needed bytes state output = cond (lent state output needed) (refusal_of (asked bytes)) 12

-- the query of a register frame: "its time and number are ignored"
abbrev pub query_in : Shape → Option Query
query_in (accepted (register t n k ps)) = some (record { k = k; terms = ps })
query_in (accepted (message t s g ps)) = none
query_in (accepted (tick t)) = none
query_in (accepted (unregister t n)) = none
query_in (accepted (cancel t s)) = none
query_in (refused r) = none

abbrev pub nothing : Outcome
nothing = record { list = []; read = 0 }

-- what a query finds in a log now
abbrev pub found_for : Log → Option Query → Outcome
found_for log none = nothing
found_for log (some q) = search q (seen log q)

-- the answer to a search, nothing where it is refused
unfoldable pub found : ℕ → Log → List ℕ → ℕ → ℕ → Outcome
found needed log bytes state output = cond (eqb (judge_search needed bytes state output) 0) (found_for log (query_in (asked bytes))) nothing
