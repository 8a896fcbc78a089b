-- What each function over a record ensures. Assumes nothing.
use Rattle.std.specs.Prelude.{ℕ, ◌+◌, ◌*◌, ◌/◌, ◌^◌, ◌≤◌, ◌<◌, ◌≡◌, Bool, true, false, cond, ◌&&◌, ◌||◌, eqb, leb, ltb}
use Rattle.std.specs.Prelude.{List, [], ◌∷◌, ◌++◌, map, length, get_or, take, drop}
use Rattle.paper.specs.Frame.{most_terms, most_listed, serial_width, Pair}
use Rattle.paper.specs.Impact.{top, score}
use Rattle.paper.specs.Log.{has_serial}
use Rattle.paper.specs.Rank.{key_factor, ranking}
use Rattle.paper.specs.Rank as Rank
use Rattle.paper.specs.Window.{Message}
use Rattle.paper.specs.Order.{In, Split}
use Rattle.paper.specs.Sort.{select}
use Rattle.paper.specs.Threshold.{exceeds, threshold_sum, last_score, reached, term_at, weight_at}
use Rattle.paper.specs.Layout.{slots, record_at, record_words, thresholds_in, serials_in, keys_in, flags_in, listed_in, flag_words}
use Rattle.paper.specs.Sound.{Distinct, Messages, Terms}
use Rattle.memory.specs.Keeps.{Keeps}
use Rattle.impact.specs.Cell.{RisingTerms}
use Rattle.rank.specs.declared.Ranked.{Ranked}
use Rattle.rank.specs.Listing.{keyed, keyed_with, keyed_of, last_score_of, least_of, Tidy, grown, withouts, has_number}
use Rattle.rank.specs.Weights.{weight_limit, weighted_sum, Raised}
use Rattle.window.specs.Slot.{slot, grade_in, stored, ring, live}
use Rattle.window.specs.Table.{TableOf}
use Rattle.candidates.specs.declared.query.Query.{Query}
use Rattle.candidates.specs.Match.{exceeds_cells}
use Rattle.candidates.specs.Flags.{flag_of, in_ring}
use Rattle.candidates.specs.Post.{terms_of}
use Rattle.candidates.specs.Rows.{Known, Having, Rows}
use Rattle.query.specs.Move.{Move}
use Rattle.query.specs.declared.Touch.{Touch}
use Rattle.query.specs.Record.{thresholds, flags, keys, Says, Held, Holds}

-- ---- reading

-- ranges that hold whatever memory says
pub record InRange (r : Query) : Type 0 where
  pub k_most : r.k ≤ most_listed
  pub n_least : 1 ≤ r.n
  pub n_most : r.n ≤ most_terms
  pub weights_least : (i : ℕ) → i < most_terms → 1 ≤ get_or r.weights i 0
  pub weights_most : (i : ℕ) → i < most_terms → get_or r.weights i 0 < weight_limit

-- the loaded query is this one
pub record Is (r : Query) (query : Rank.Query) : Type 0 where
  pub k : r.k ≡ query.k
  pub n : r.n ≡ length query.terms
  pub terms : terms_of r ≡ query.terms
  pub rising : RisingTerms r.n r.terms
  pub known : Known r

pub record LoadedQuery (w : List ℕ) (q : ℕ) (r : Query) : Type 0 where
  pub in_range : InRange r
  pub is : (query : Rank.Query) → Terms query → Says w q query → Is r query

pub record LoadedThresholds (w : List ℕ) (q : ℕ) (r : List ℕ) : Type 0 where
  pub in_scale : (i : ℕ) → get_or r i 0 ≤ top
  pub is : ((i : ℕ) → i < most_terms → get_or w (thresholds_in q + i) 0 ≤ top) → r ≡ take most_terms (drop (thresholds_in q) w)

pub record LoadedList (w : List ℕ) (q : ℕ) (r : Ranked) : Type 0 where
  pub count_most : r.count ≤ most_listed
  pub count_is : get_or w (listed_in q) 0 ≤ most_listed → r.count ≡ get_or w (listed_in q) 0
  pub serials : r.serials ≡ take most_listed (drop (serials_in q) w)
  pub keys : r.keys ≡ take most_listed (drop (keys_in q) w)

-- ---- thresholds beside a list

abbrev pub sum_of : Query → List ℕ → ℕ
sum_of r hs = weighted_sum r.n r.weights hs

-- the list is full, and the threshold sum is below its last score
abbrev pub Room : Query → List ℕ → Ranked → Type 0
Room r hs list = (list.count ≡ r.k) × (sum_of r hs < last_score_of (keyed_of list))

-- the thresholds raised until tight where there is room, else none
pub record Lifted (r : Query) (hs : List ℕ) (list : Ranked) (hs' : List ℕ) : Type 0 where
  pub room : Room r hs list → Raised r.n r.weights hs (last_score_of (keyed_of list)) hs'
  pub none : (Room r hs list → ⊥) → (i : ℕ) → get_or hs' i 0 ≡ 0

-- whether no message that scores at most the threshold sum could be listed
unfoldable pub secure : Query → List ℕ → Ranked → Bool
secure r hs list = eqb (sum_of r hs) 0 || (leb r.k list.count && ltb (sum_of r hs) (last_score_of (keyed_of list)))

-- ---- writing

-- what is kept of the query is written, and nothing else
pub record StoredKept (q : ℕ) (hs : List ℕ) (list : Ranked) (fs : List ℕ) (w w' : List ℕ) : Type 0 where
  pub keeps : Keeps (listed_in q) (record_at q + record_words) w w'
  pub count : get_or w' (listed_in q) 0 ≡ list.count
  pub thresholds : take most_terms (drop (thresholds_in q) w') ≡ hs
  pub serials : take most_listed (drop (serials_in q) w') ≡ list.serials
  pub keys : take most_listed (drop (keys_in q) w') ≡ list.keys
  pub flags : take flag_words (drop (flags_in q) w') ≡ fs

-- the window that a query is settled over: of `count` slots from slot `first` on the live ones hold these messages
pub record Over (w : List ℕ) (first count : ℕ) (ms : List Message) : Type 0 where
  pub shows : map (slot w) (live w (ring first count)) ≡ map stored ms
  pub valid : Messages ms

-- What is needed of the list and the thresholds that settling ends with: the list is the ranking, the thresholds are safe for it, and whoever
-- exceeds one of them is flagged.
pub record Ready (w : List ℕ) (q first count : ℕ) (ms : List Message) (query : Rank.Query) (fs : List ℕ) (r : Query) (hs : List ℕ)
    (list : Ranked) : Type 0 where
  pub over : Over w first count ms
  pub terms : Terms query
  pub says : Says w q query
  pub is : Is r query
  pub ranked : keyed_of list ≡ keyed (ranking query ms)
  pub tidy : Tidy list
  pub unused : (i : ℕ) → r.n ≤ i → get_or hs i 0 ≡ 0
  pub safe : length (ranking query ms) ≡ query.k → threshold_sum query.terms (take r.n hs) < last_score (ranking query ms)
  pub short : length (ranking query ms) < query.k → (i : ℕ) → get_or hs i 0 ≡ 0
  pub taken : (j : ℕ) → j < slots → in_ring first count j ≡ true → exceeds_cells query.terms (take r.n hs) (slot w j).cells ≡ true → flag_of fs j ≡ true

-- the flagged slots of the window that are live hold some of its messages, all that exceed a threshold among them
pub record Shown (w : List ℕ) (first count : ℕ) (fs : List ℕ) (ms : List Message) (qs : List Pair) (hs : List ℕ) : Type 0 where
  pub test : Message → Bool
  pub covers : (m : Message) → exceeds qs hs m.pairs ≡ true → test m ≡ true
  pub shows : map (slot w) (select (flag_of fs) (live w (ring first count))) ≡ map stored (select test ms)

-- Thresholds that were raised beside the list are stored with it, and those of the messages looked at that exceed one of them as candidates. Looked at
-- are those flagged, all or those that have one of the query's terms.
pub record Finished (w : List ℕ) (q : ℕ) (js rows : List ℕ) (r : Query) (hs' : List ℕ) (list : Ranked) (w' : List ℕ) : Type 0 where
  pub keeps : Keeps (listed_in q) (record_at q + record_words) w w'
  pub right : (first count : ℕ) (fs hs : List ℕ) (ms : List Message) (query : Rank.Query) → first < slots
      → Having w r (select (flag_of fs) (ring first count)) js → Rows w js r rows → length hs ≡ most_terms → Lifted r hs list hs'
      → Ready w q first count ms query fs r hs list → Holds w' q first count ms query

-- the same where the flagged messages have yet to be looked at
pub record SiftedFrom (w : List ℕ) (q first count : ℕ) (fs : List ℕ) (r : Query) (hs' : List ℕ) (list : Ranked) (w' : List ℕ) : Type 0 where
  pub keeps : Keeps (listed_in q) (record_at q + record_words) w w'
  pub right : (hs : List ℕ) (ms : List Message) (query : Rank.Query) → length hs ≡ most_terms → Lifted r hs list hs'
      → Ready w q first count ms query fs r hs list → Holds w' q first count ms query

-- settled from the messages picked, or nothing is written
pub record Attempted (w : List ℕ) (q : ℕ) (js : List ℕ) (r : Query) (hs : List ℕ) (b : Bool) (w' : List ℕ) : Type 0 where
  pub keeps : Keeps (listed_in q) (record_at q + record_words) w w'
  pub certain : sum_of r hs ≡ 0 → b ≡ true
  pub refused : b ≡ false → w' ≡ w
  pub right : b ≡ true → (first count : ℕ) (fs : List ℕ) (ms : List Message) (query : Rank.Query) → first < slots
      → Having w r (select (flag_of fs) (ring first count)) js → Over w first count ms → Terms query → Says w q query → Is r query
      → ((i : ℕ) → r.n ≤ i → get_or hs i 0 ≡ 0) → Shown w first count fs ms query.terms (take r.n hs)
      → ((j : ℕ) → j < slots → in_ring first count j ≡ true → exceeds_cells query.terms (take r.n hs) (slot w j).cells ≡ true → flag_of fs j ≡ true)
      → Holds w' q first count ms query

-- whoever exceeds one of the thresholds is flagged, and nobody else
abbrev pub Exact : List ℕ → ℕ → ℕ → List ℕ → List Pair → List ℕ → Type 0
Exact w first count fs qs hs = (j : ℕ) → flag_of fs j ≡ (in_ring first count j && exceeds_cells qs hs (slot w j).cells)

-- the thresholds are raised beside a list that is right; the flags are exact for those before
pub record Retuned (w : List ℕ) (q first count : ℕ) (fs : List ℕ) (r : Query) (hs : List ℕ) (list : Ranked) (w' : List ℕ) : Type 0 where
  pub keeps : Keeps (listed_in q) (record_at q + record_words) w w'
  pub right : (ms : List Message) (query : Rank.Query) → Ready w q first count ms query fs r hs list
      → Exact w first count fs query.terms (take r.n hs) → Holds w' q first count ms query

-- settled over the whole window
pub record Refilled (w : List ℕ) (q first count : ℕ) (r : Query) (w' : List ℕ) : Type 0 where
  pub keeps : Keeps (listed_in q) (record_at q + record_words) w w'
  pub right : (ms : List Message) (query : Rank.Query) → Over w first count ms → Terms query → Says w q query → Is r query → Holds w' q first count ms query

-- settled from the messages that exceed one of the thresholds
pub record SettledFrom (w : List ℕ) (q first count : ℕ) (fs : List ℕ) (r : Query) (hs : List ℕ) (w' : List ℕ) : Type 0 where
  pub keeps : Keeps (listed_in q) (record_at q + record_words) w w'
  pub right : (ms : List Message) (query : Rank.Query) → Over w first count ms → Terms query → Says w q query → Is r query
      → ((i : ℕ) → r.n ≤ i → get_or hs i 0 ≡ 0)
      → ((j : ℕ) → j < slots → in_ring first count j ≡ true → flag_of fs j ≡ exceeds_cells query.terms (take r.n hs) (slot w j).cells)
      → Holds w' q first count ms query

-- ---- a frame

-- the slot of an arriving message, or of a cancelled one; none where there is no such slot
abbrev pub arriving : ℕ → List ℕ
arriving j = cond (ltb j slots) (j ∷ []) []

-- the slots whose messages leave: those from slot `gone` on, and the cancelled one
abbrev pub leaving : Move → List ℕ
leaving m = ring m.gone m.departed ++ arriving m.cancelled

-- the serials that go out of a list
abbrev pub leaving_serials : List ℕ → Move → List ℕ
leaving_serials w m = map (λ j. (slot w j).serial) (ring m.gone m.departed) ++ cond (ltb m.cancelled slots) (m.serial ∷ []) []

-- the flags without that of slot j, where there is such a slot
pub record WithoutOne (fs : List ℕ) (j : ℕ) (r : List ℕ) : Type 0 where
  pub gone : (i : ℕ) → In i (arriving j) → flag_of r i ≡ false
  pub others : (i : ℕ) → (In i (arriving j) → ⊥) → flag_of r i ≡ flag_of fs i

-- the flags with that of the arriving message where there is one, and without those of the messages that leave
pub record MovedFlags (w : List ℕ) (q : ℕ) (m : Move) (comes : Bool) (r : List ℕ) : Type 0 where
  pub new : (j : ℕ) → In j (arriving m.newest) → flag_of r j ≡ comes
  pub gone : (j : ℕ) → (In j (arriving m.newest) → ⊥) → In j (leaving m) → flag_of r j ≡ false
  pub others : (j : ℕ) → (In j (arriving m.newest) → ⊥) → (In j (leaving m) → ⊥) → flag_of r j ≡ flag_of (flags w q) j

pub record Least (w : List ℕ) (q r : ℕ) : Type 0 where
  pub is : (query : Rank.Query) → Terms query → Says w q query → get_or w (listed_in q) 0 ≤ most_listed → r ≡ least_of query.k (keys w q)

-- only the flags are written
pub record KeptList (w : List ℕ) (q : ℕ) (fs w' : List ℕ) : Type 0 where
  pub keeps : Keeps (flags_in q) (record_at q + record_words) w w'
  pub flags_are : flags w' q ≡ fs

-- the messages that leave are taken out of a list, where one of them scores enough to be in it
pub record WithoutGone (w : List ℕ) (m : Move) (went least : ℕ) (l r : Ranked) : Type 0 where
  pub within : r.count ≤ l.count
  pub tidy : Tidy l → Tidy r
  pub list_is : keyed_of r ≡ cond (leb (least / key_factor) went) (withouts (leaving_serials w m) (keyed_of l)) (keyed_of l)

-- the key of the message in a slot that scores so much
abbrev pub key_in : List ℕ → ℕ → ℕ → ℕ
key_in w j score = score * key_factor + grade_in (slot w j)

-- an arriving message is put into a list of up to k, where it changes it
pub record WithNewest (w : List ℕ) (newest came k least : ℕ) (l r : Ranked) : Type 0 where
  pub within : r.count ≤ most_listed
  pub tidy : Tidy l → Tidy r
  pub list_is : l.count ≤ k
      → keyed_of r
      ≡ cond (ltb newest slots && leb least (key_in w newest came))
      (grown k (keyed_with (slot w newest).serial (key_in w newest came)) (keyed_of l))
      (keyed_of l)

-- A change of the window from n slots from slot o on, as memory was in w₀, to what the move says, as it is in w: `aa` were in force, `ga` go, `sa` stay,
-- `ca` come.
pub record Change (w₀ w : List ℕ) (o n : ℕ) (m : Move) (aa ga sa ca : List Message) : Type 0 where
  pub first_below : o < slots
  pub then_below : m.first < slots
  pub stay_slots : List ℕ
  pub before : Split (live w₀ (ring o n)) (live w₀ (leaving m)) stay_slots
  pub after : live w (ring m.first m.count) ≡ stay_slots ++ arriving m.newest
  pub same : (j : ℕ) → In j (stay_slots ++ arriving m.newest) → slot w j ≡ slot w₀ j
  pub apart : (j : ℕ) → In j (leaving m) → In j stay_slots → ⊥
  pub split : Split aa ga sa
  pub gone : map (slot w₀) (live w₀ (leaving m)) ≡ map stored ga
  pub stay : map (slot w₀) stay_slots ≡ map stored sa
  pub come : map (slot w₀) (arriving m.newest) ≡ map stored ca
  pub serials : (s : ℕ) → s < 2 ^ serial_width → has_number s (leaving_serials w m) ≡ has_serial s ga
  pub distinct : Distinct aa
  pub valid : Messages aa
  pub valid_new : Messages ca

-- whether the frame reaches the query: a message that goes or comes exceeds one of its thresholds
abbrev pub reaches : List ℕ → ℕ → List Message → List Message → Rank.Query → Bool
reaches w q ga ca query = reached query.terms (thresholds w q (length query.terms)) (ga ++ ca)

-- what a frame's tables and the flags say of a query that was right before it
pub record Told (w : List ℕ) (q o' n : ℕ) (ga ca : List Message) (query : Rank.Query) (touch : Touch) (fs : List ℕ) : Type 0 where
  pub came : (m : Message) → In m ca → touch.came ≡ score query.terms m.pairs
  pub went : (m : Message) → In m ga → score query.terms m.pairs ≤ touch.went
  pub exact : Exact w o' n fs query.terms (thresholds w q (length query.terms))

-- the list is changed in place, and what is kept beside it follows
pub record Changed (w : List ℕ) (q : ℕ) (m : Move) (touch : Touch) (least : ℕ) (fs w' : List ℕ) : Type 0 where
  pub keeps : Keeps (listed_in q) (record_at q + record_words) w w'
  pub right : (w₀ : List ℕ) (o n : ℕ) (aa ga sa ca : List Message) (query : Rank.Query) → Change w₀ w o n m aa ga sa ca → Terms query
      → Held w₀ w q o n aa query → least ≡ least_of query.k (keys w q) → Told w q m.first m.count ga ca query touch fs
      → Holds w' q m.first m.count (sa ++ ca) query

-- the tables are those of the message that comes and of the messages that go; slots that aren't live add nothing
pub record Tables (w₀ : List ℕ) (m : Move) (coming going : List ℕ) : Type 0 where
  pub new : TableOf (map (slot w₀) (arriving m.newest)) coming
  pub old : TableOf (map (slot w₀) (leaving m)) going

pub record Updated (w : List ℕ) (q : ℕ) (m : Move) (coming going : List ℕ) (r : Bool) (w' : List ℕ) : Type 0 where
  pub keeps : Keeps (listed_in q) (record_at q + record_words) w w'
  pub untouched : r ≡ false → w' ≡ w
  pub right : (w₀ : List ℕ) (o n : ℕ) (aa ga sa ca : List Message) (query : Rank.Query) → Tables w₀ m coming going → Change w₀ w o n m aa ga sa ca
      → Terms query → Held w₀ w q o n aa query → (r ≡ reaches w q ga ca query) × Holds w' q m.first m.count (sa ++ ca) query

-- the words of some pairs, 0 past them
abbrev pub Packed : List Pair → List ℕ → Type 0
Packed qs r = (i : ℕ) → i < most_terms → get_or r i 0 ≡ term_at qs i * weight_limit + weight_at qs i

-- a query is written, with nothing kept of it yet
pub record PutQuery (q : ℕ) (query : Rank.Query) (w w' : List ℕ) : Type 0 where
  pub keeps : Keeps (record_at q) (listed_in q) w w'
  pub says : Says w' q query

-- a new query, settled over the window; the record was all zero
pub record Registered (w : List ℕ) (q first count : ℕ) (query : Rank.Query) (w' : List ℕ) : Type 0 where
  pub keeps : Keeps (record_at q) (record_at q + record_words) w w'
  pub right : (ms : List Message) → Over w first count ms → Terms query → Holds w' q first count ms query

pub record Cleared (w : List ℕ) (q : ℕ) (w' : List ℕ) : Type 0 where
  pub keeps : Keeps (record_at q) (record_at q + record_words) w w'
  pub zero : (i : ℕ) → i < record_words → get_or w' (record_at q + i) 0 ≡ 0
