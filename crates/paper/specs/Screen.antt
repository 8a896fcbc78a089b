-- One screen for all queries: its lines go out in rounds. Document 02, T-08. Assumes nothing.
use Rattle.std.specs.Prelude.{ℕ, zero, suc, ◌+◌, ◌*◌, ◌/◌, ◌≤◌, min, max, ◌≡◌, cond, List, [], ◌∷◌, ◌++◌, map, length, take, drop, eqb, leb}
use Rattle.paper.specs.Frame.{numbers}
use Rattle.paper.specs.Rank.{Line}
use Rattle.paper.specs.Sort.{select}
use Rattle.paper.specs.Order.{In}
use Rattle.paper.specs.Layout.{state_length}
use Rattle.paper.specs.Log.{Log, query_at, is_in_use, listed}

-- ---- rounds

-- A query's number, and the entries of its list that aren't placed yet, the highest first.
pub record Queue : Type 0 where
  pub number : ℕ
  pub unplaced : List Line

-- A line of the screen: an entry, with the number of the query whose list it is in.
pub record ScreenLine : Type 0 where
  pub number : ℕ
  pub entry : Line

-- a line "for its highest such entry", where a query has one
abbrev pub turn : Queue → List ScreenLine
turn q = map (λ x. record { number = q.number; entry = x }) (take 1 q.unplaced)

-- "in each, every query with an unplaced entry gets one"
unfoldable pub round : List Queue → List ScreenLine
round [] = []
round (q ∷ qs) = turn q ++ round qs

-- a query after its turn
abbrev pub served : Queue → Queue
served q = record { number = q.number; unplaced = drop 1 q.unplaced }

-- the lines of n rounds
unfoldable pub rounds : ℕ → List Queue → List ScreenLine
rounds zero qs = []
rounds (suc n) qs = round qs ++ rounds n (map served qs)

-- after as many rounds as the longest list has entries, "entries end"
unfoldable pub longest : List Queue → ℕ
longest [] = 0
longest (q ∷ qs) = max (length q.unplaced) (longest qs)

-- "Lines go out in rounds .. until lines or entries end"
unfoldable pub screen : ℕ → List Queue → List ScreenLine
screen B qs = take B (rounds (longest qs) qs)

-- ---- of a log

-- m numbers from n on
unfoldable pub upward : ℕ → ℕ → List ℕ
upward n zero = []
upward n (suc m) = n ∷ upward (suc n) m

-- the numbers of the registered queries, "in rising query number"
abbrev pub numbers_in_use : Log → List ℕ
numbers_in_use log = select (λ n. is_in_use (query_at log n)) (upward 0 numbers)

-- at first a query's whole list is unplaced, as a reading returns it
abbrev pub queue_of : Log → ℕ → Queue
queue_of log n = record { number = n; unplaced = listed 0 log state_length 0 n }

abbrev pub queues : Log → List Queue
queues log = map (queue_of log) (numbers_in_use log)

abbrev pub screen_of : ℕ → Log → List ScreenLine
screen_of B log = screen B (queues log)

-- ---- asking

-- "B lines, 0 to 512"
abbrev pub most_screen_lines : ℕ
most_screen_lines = 512

-- a line written: "a query (one byte), serial and score (four bytes each ..)"
abbrev pub screen_line_length : ℕ
screen_line_length = 9

-- "B above 512 is refused as 5, after the state length (12) and before the output's (12), which must hold B lines"
unfoldable pub judge_screen : (B state output : ℕ) → ℕ
judge_screen B state output =
    cond (eqb state state_length)
    (cond (leb B most_screen_lines) (cond (leb (screen_line_length * B) output) 0 12) 5)
    12

-- "The reply is these lines in order": none where it is refused
unfoldable pub screen_in : (B : ℕ) → Log → (state output : ℕ) → List ScreenLine
screen_in B log state output = cond (eqb (judge_screen B state output) 0) (screen_of B log) []

-- ---- what queries get

-- the entries that a query has on a screen
abbrev pub own : ℕ → List ScreenLine → List Line
own n ps = map (λ p. p.entry) (select (λ p. eqb p.number n) ps)

-- "all entries"
unfoldable pub entries_in : List Queue → ℕ
entries_in [] = 0
entries_in (q ∷ qs) = length q.unplaced + entries_in qs

-- what document 02 says of B lines for these queries
pub record Fair (B : ℕ) (qs : List Queue) (ps : List ScreenLine) : Type 0 where
  -- "Each query gets at least the lesser of its entries and B divided by the registered queries (rounded down)"
  pub at_least : (q : Queue) → In q qs → min (length q.unplaced) (B / length qs) ≤ length (own q.number ps)
  -- "and never more lines than entries"
  pub at_most : (q : Queue) → In q qs → length (own q.number ps) ≤ length q.unplaced
  -- its lines are for the first entries of its list, in the list's order
  pub in_order : (q : Queue) → In q qs → own q.number ps ≡ take (length (own q.number ps)) q.unplaced
  -- "Lines given sum to the lesser of B and all entries"
  pub sum : length ps ≡ min B (entries_in qs)
  -- every line is a registered query's
  pub known : (p : ScreenLine) → In p ps → In p.number (map (λ q. q.number) qs)
  -- "With no query registered nothing is placed"
  pub none : qs ≡ [] → ps ≡ []
