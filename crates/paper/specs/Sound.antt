-- What is true of every log that was fed from a start: its times never fall, no two messages in force share a serial, and every field is
-- within its range. Assumes nothing.
use Rattle.std.specs.Prelude.{ℕ, ◌≤◌, ◌<◌, ◌^◌, ◌≡◌, false, List, [], ◌∷◌, length}
use Rattle.std.proofs.Math.Option.{Option, none, some}
use Rattle.paper.specs.Frame.{Pairs, count_width, weight_width, most_pairs, most_terms, numbers, time_width, serial_width, most_listed}
use Rattle.paper.specs.Window.{Message}
use Rattle.paper.specs.Rank.{Query}
use Rattle.paper.specs.Log.{Log, has_serial, in_force_now}

-- every time is at least t
abbrev pub From : ℕ → List Message → Type 0
From t [] = Unit {0}
From t (m ∷ l) = (t ≤ m.time) × From t l

-- the times never fall, and none is above the clock
abbrev pub Chronological : ℕ → List Message → Type 0
Chronological clock [] = Unit {0}
Chronological clock (m ∷ l) = (m.time ≤ clock) × From m.time l × Chronological clock l

-- no two share a serial
abbrev pub Distinct : List Message → Type 0
Distinct [] = Unit {0}
Distinct (m ∷ l) = (has_serial m.serial l ≡ false) × Distinct l

-- every message's fields are within their ranges
abbrev pub Messages : List Message → Type 0
Messages [] = Unit {0}
Messages (m ∷ l) = (m.serial < 2 ^ serial_width) × Pairs count_width most_pairs m.pairs × Messages l

pub record Terms (q : Query) : Type 0 where
  pub k_least : 1 ≤ q.k
  pub k_most : q.k ≤ most_listed
  pub terms : Pairs weight_width most_terms q.terms

abbrev pub Queries : List (Option Query) → Type 0
Queries [] = Unit {0}
Queries (none ∷ qs) = Queries qs
Queries (some q ∷ qs) = Terms q × Queries qs

pub record Sound (log : Log) : Type 0 where
  pub n_least : 1 ≤ log.N
  pub t_least : 1 ≤ log.T
  pub clock_below : log.clock < 2 ^ time_width
  pub ordered : Chronological log.clock log.messages
  pub distinct : Distinct (in_force_now log)
  pub messages : Messages log.messages
  pub numbered : length log.queries ≡ numbers
  pub queries : Queries log.queries
