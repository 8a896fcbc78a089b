-- Demand 3, stated over what is kept of each query; document 01, "Replies" and "The paper log". Assumes nothing.
use Rattle.std.specs.Prelude.{ℕ, zero, suc, ◌+◌, ◌/◌, ◌^◌, ◌<◌, ◌≡◌, ◌↔◌, Bool, true, false, cond, ◌||◌, List, [], eqb}
use Rattle.std.proofs.Math.Option.{Option, none, some}
use Rattle.wire.specs.Bits.{odd}
use Rattle.paper.specs.Frame.{Frame, Shape, shape, numbers}
use Rattle.paper.specs.Frame.Frame.{message, tick, register, unregister, cancel}
use Rattle.paper.specs.Frame.Shape.{refused, accepted}
use Rattle.paper.specs.Window.{Message}
use Rattle.paper.specs.Rank.{Query}
use Rattle.paper.specs.Order.{In}
use Rattle.paper.specs.Threshold.{Kept, Settled, reached, Exceeds}
use Rattle.paper.specs.Log.{Log, Call, query_at, judge, after, departures, seen, moved_for}

-- what an engine keeps: for each number nothing, or what it keeps of the query
abbrev pub Keeping : Type 0
Keeping = ℕ → Option Kept

-- ---- "at its end for each registered query": what is kept agrees with the log, and nothing is kept for a number not in use

-- by what each query sees
abbrev pub SettledAt : Option Query → (Query → List Message) → Option Kept → Type 0
SettledAt none ms none = Unit {0}
SettledAt none ms (some x) = ⊥
SettledAt (some q) ms none = ⊥
SettledAt (some q) ms (some x) = Settled q (ms q) x

abbrev pub AllSettled : Log → Keeping → Type 0
AllSettled log kept = (n : ℕ) → n < numbers → SettledAt (query_at log n) (seen log) (kept n)

-- ---- marks

-- whether a frame registers or drops the number
abbrev pub names : Frame → ℕ → Bool
names (message t s g ps) n = false
names (tick t) n = false
names (register t m k ps) n = eqb m n
names (unregister t m) n = eqb m n
names (cancel t s) n = false

-- "an arriving or departing message exceeds one of its thresholds as they stood before the frame"
abbrev pub reached_by : Option Query → Option Kept → (Query → List Message) → Bool
reached_by none x ms = false
reached_by (some q) none ms = false
reached_by (some q) (some x) ms = reached q.terms x.thresholds (ms q)

-- "bit q set exactly if query q is reached, registered or dropped by it", for an accepted frame
unfoldable pub marked : Log → Keeping → Frame → ℕ → Bool
marked log kept f n = names f n || reached_by (query_at log n) (kept n) (moved_for log f)

-- the number whose bit i is set where test i holds, for i below n
unfoldable pub bitmap : (ℕ → Bool) → ℕ → ℕ
bitmap test zero = 0
bitmap test (suc n) = cond (test n) (2 ^ n) 0 + bitmap test n

-- ---- replies

pub record Reply : Type 0 where
  pub number : ℕ
  pub marks : ℕ
  pub departures : ℕ

abbrev pub marks_shape : Log → Keeping → Shape → ℕ
marks_shape log kept (refused r) = 0
marks_shape log kept (accepted f) = bitmap (marked log kept f) numbers

-- "A refusal returns its number, all else returned is 0": the departures of a refused frame are 0 already
unfoldable pub reply_to : ℕ → Log → Keeping → Call → Reply
reply_to needed log kept c =
    record {
      number = judge needed log c;
      marks = cond (eqb (judge needed log c) 0) (marks_shape log kept (shape c.bytes)) 0;
      departures = departures needed log c;
    }

-- ---- the last frame

-- whether a call marks the number
abbrev pub marked_shape : Log → Keeping → Shape → ℕ → Bool
marked_shape log kept (refused r) n = false
marked_shape log kept (accepted f) n = marked log kept f n

unfoldable pub marked_by : ℕ → Log → Keeping → Call → ℕ → Bool
marked_by needed log kept c n = cond (eqb (judge needed log c) 0) (marked_shape log kept (shape c.bytes) n) false

-- the messages that depart or arrive for a query with a call, none where it is refused
abbrev pub moved_shape : Log → Shape → Query → List Message
moved_shape log (refused r) q = []
moved_shape log (accepted f) q = moved_for log f q

unfoldable pub moved : ℕ → Log → Call → Query → List Message
moved needed log c q = cond (eqb (judge needed log c) 0) (moved_shape log (shape c.bytes) q) []

-- a message that has, in one of a query's terms, an impact above the threshold kept there
abbrev pub ExceedsKept : Query → Option Kept → Message → Type 0
ExceedsKept q none m = ⊥
ExceedsKept q (some x) m = Exceeds q.terms x.thresholds m.pairs

-- One call, from what was kept before it to what is kept after it: the reply is the log's, its marks by the thresholds before the frame. `marked`
-- says of its bits: "A query registered before and after the last frame is marked by it exactly when an arriving or departing message has, in one
-- of its terms, an impact above the threshold it had there before that frame"; `unmarked`: "unmarked, its thresholds, candidates and list are as
-- they were".
pub record Answered (needed : ℕ) (log : Log) (kept : Keeping) (c : Call) (r : Reply) (kept' : Keeping) : Type 0 where
  pub reply : r ≡ reply_to needed log kept c
  pub marked : (n : ℕ) (q q' : Query) → n < numbers → query_at log n ≡ some q → query_at (after needed log c) n ≡ some q'
      → (odd (r.marks / 2 ^ n) ≡ true) ↔ ((m : Message) × In m (moved needed log c q) × ExceedsKept q (kept n) m)
  pub unmarked : (n : ℕ) → n < numbers → marked_by needed log kept c n ≡ false → kept' n ≡ kept n
