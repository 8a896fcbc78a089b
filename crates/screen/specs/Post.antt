-- What the records show of a screen's queries, and what each function of a screen ensures. `w` is the state memory in words. Assumes nothing.
use Rattle.std.specs.Prelude.{ℕ, ◌≤◌, ◌<◌, ◌≡◌, Bool, List, map, length, get_or, take, drop, ltb}
use Rattle.paper.specs.Frame.{numbers}
use Rattle.paper.specs.Sort.{select}
use Rattle.paper.specs.Screen.{Queue, ScreenLine, screen, upward}
use Rattle.query.specs.Record.{keys, list, listed_at}
use Rattle.screen.specs.Lines.{lines_into}

-- ---- in the records

-- what is left of a list after i rounds
abbrev pub queue_after : List ℕ → ℕ → ℕ → Queue
queue_after w i q = record { number = q; unplaced = drop i (list w q) }

-- whether anything is
abbrev pub waits : List ℕ → ℕ → ℕ → Bool
waits w i q = ltb i (length (keys w q))

-- the line of the next round
abbrev pub line_after : List ℕ → ℕ → ℕ → ScreenLine
line_after w i q = record { number = q; entry = listed_at w q i }

-- every number with its list; one that isn't in use has none
abbrev pub all_queues : List ℕ → List Queue
all_queues w = map (queue_after w 0) (upward 0 numbers)

-- ---- what the functions ensure

-- these are numbers of queries
abbrev pub QueryNumbers : List ℕ → Type 0
QueryNumbers ns = (j : ℕ) → j < length ns → get_or ns j 0 < numbers

-- of these queries those that wait after i rounds are the first r
pub record StillWaiting (w : List ℕ) (i : ℕ) (ns ns' : List ℕ) (r : ℕ) : Type 0 where
  pub most : r ≤ length ns'
  pub known : (j : ℕ) → j < r → get_or ns' j 0 < numbers
  pub right : take r ns' ≡ select (waits w i) ns

pub record Shared (w : List ℕ) (B : ℕ) (out : List ℕ) (r : ℕ) (out' : List ℕ) : Type 0 where
  pub count : r ≡ length (screen B (all_queues w))
  pub lines : out' ≡ lines_into (screen B (all_queues w)) out
