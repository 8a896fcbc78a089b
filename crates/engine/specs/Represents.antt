-- When state memory holds a paper log, and what it keeps of each query. `w` is the state memory in words. Assumes nothing.
use Rattle.std.specs.Prelude.{ℕ, ◌≤◌, ◌<◌, ◌≡◌, cond, List, map, length, get_or, eqb}
use Rattle.std.proofs.Math.Option.{none, some}
use Rattle.paper.specs.Frame.{numbers}
use Rattle.paper.specs.Window.{most_messages}
use Rattle.paper.specs.Layout.{slots, state_words, capacity_at, life_at, clock_at, oldest_at, count_at, record_at, size_in}
use Rattle.paper.specs.Log.{Log, query_at, filled_now, seen}
use Rattle.paper.specs.Sound.{Sound}
use Rattle.paper.specs.Demand3.{Keeping}
use Rattle.window.specs.Slot.{held, window}
use Rattle.query.specs.Record.{kept_of, HoldsAt}

-- the window's first slot and how many it has, as the header says
abbrev pub oldest_of : List ℕ → ℕ
oldest_of w = get_or w oldest_at 0

abbrev pub count_of : List ℕ → ℕ
count_of w = get_or w count_at 0

-- the memory holds the log
pub record Represents (log : Log) (w : List ℕ) : Type 0 where
  pub long : length w ≡ state_words
  pub capacity : get_or w capacity_at 0 ≡ log.N
  pub life : get_or w life_at 0 ≡ log.T
  pub clock : get_or w clock_at 0 ≡ log.clock
  pub capacity_most : log.N ≤ most_messages
  pub oldest_below : oldest_of w < slots
  pub count_below : count_of w < slots
  pub shows : window w (oldest_of w) (count_of w) ≡ map held (filled_now log)
  pub sound : Sound log
  pub records : (q : ℕ) → q < numbers → HoldsAt w q (oldest_of w) (count_of w) (seen log) (query_at log q)

-- what the memory keeps of each query: nothing where its record starts with 0
unfoldable pub keeping : List ℕ → Keeping
keeping w q = cond (eqb (get_or w (record_at q) 0) 0) none (some (kept_of w q (oldest_of w) (count_of w) (get_or w (size_in q) 0)))
