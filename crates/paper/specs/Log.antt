-- The paper log: what was accepted, the refusal table, and the replies.
-- Document 01, "Replies" and "The paper log", and document 02, T-02 and T-04. Assumes nothing.
use Rattle.std.specs.Prelude.{ℕ, ◌*◌, ◌^◌, Bool, true, false, cond, ◌&&◌, ◌||◌, List, [], ◌∷◌, ◌++◌, length, get_or, set, replicate, eqb, leb, ltb}
use Rattle.std.proofs.Math.Option.{Option, none, some}
use Rattle.paper.specs.Frame.{Frame, Shape, shape, grade_of, term_width, numbers}
use Rattle.paper.specs.Frame.Frame.{message, tick, register, unregister, cancel}
use Rattle.paper.specs.Frame.Shape.{refused, accepted}
use Rattle.paper.specs.Window.{Message, arrival, most_messages, longest_life, filled, standing, in_force, noting, departing, remaining}
use Rattle.paper.specs.Rank.{Query, Line, ranking, postings, lines}
use Rattle.paper.specs.Layout.{state_length}

-- a posting written: serial and impact, four bytes each
abbrev pub posting_length : ℕ
posting_length = 8

-- ---- the log

-- "It holds a clock, at first 0; the accepted messages in order ..; and for each number 0 to 31 either nothing or a k, terms and weights."
pub record Log : Type 0 where
  pub N : ℕ
  pub T : ℕ
  pub clock : ℕ
  pub messages : List Message
  pub queries : List (Option Query)

abbrev pub fresh : ℕ → ℕ → Log
fresh N T = record { N = N; T = T; clock = 0; messages = []; queries = replicate numbers none }

abbrev pub query_at : Log → ℕ → Option Query
query_at log n = get_or log.queries n none

abbrev pub is_in_use : Option Query → Bool
is_in_use none = false
is_in_use (some q) = true

-- in force at a time, and now
abbrev pub in_force_at : Log → ℕ → List Message
in_force_at log t = in_force log.N log.T t log.messages

abbrev pub in_force_now : Log → List Message
in_force_now log = in_force_at log log.clock

-- and with them the cancelled ones that still fill a place
abbrev pub filled_at : Log → ℕ → List Message
filled_at log t = filled log.N log.T t log.messages

abbrev pub filled_now : Log → List Message
filled_now log = filled_at log log.clock

-- the messages that a query ranks and takes its candidates from
unfoldable pub seen : Log → Query → List Message
seen log q = in_force_now log

-- ---- judging a frame

unfoldable pub has_serial : ℕ → List Message → Bool
has_serial s [] = false
has_serial s (m ∷ ms) = eqb m.serial s || has_serial s ms

abbrev pub time_of : Frame → ℕ
time_of (message t s g ps) = t
time_of (tick t) = t
time_of (register t n k ps) = t
time_of (unregister t n) = t
time_of (cancel t s) = t

-- 8: "serial in force at the frame's time, before any message leaves for N"; 13: "serial not in force at the frame's time, checked where 8 stands";
-- 9: "registering a number in use"; 10: "dropping .. a number not in use"
abbrev pub judge_kind : Log → Frame → ℕ
judge_kind log (message t s g ps) = cond (has_serial s (in_force_at log t)) 8 0
judge_kind log (tick t) = 0
judge_kind log (register t n k ps) = cond (is_in_use (query_at log n)) 9 0
judge_kind log (unregister t n) = cond (is_in_use (query_at log n)) 0 10
judge_kind log (cancel t s) = cond (has_serial s (in_force_at log t)) 0 13

-- 7: "time below the clock"
abbrev pub judge_frame : Log → Frame → ℕ
judge_frame log f = cond (ltb (time_of f) log.clock) 7 (judge_kind log f)

abbrev pub judge_shape : Log → Shape → ℕ
judge_shape log (refused r) = r
judge_shape log (accepted f) = judge_frame log f

-- A call with a frame as the host makes it: the bytes, the length of the state memory and that of the output.
pub record Call : Type 0 where
  pub bytes : List ℕ
  pub state : ℕ
  pub output : ℕ

-- 12: "state memory not of its fixed length, or output shorter than needed"
abbrev pub lent : ℕ → ℕ → ℕ → Bool
lent state output needed = eqb state state_length && leb needed output

-- "Order for a frame: state length (12), then 1 to 10", 14 between 4 and 5 and 13 in the place of 8. `needed` is how many bytes the answer takes
-- where it is written into lent ones, else 0.
unfoldable pub judge : ℕ → Log → Call → ℕ
judge needed log c = cond (lent c.state c.output needed) (judge_shape log (shape c.bytes)) 12

-- ---- the log after a frame

abbrev pub arrivals : Frame → List Message
arrivals (message t s g ps) = arrival t s (grade_of g) ps ∷ []
arrivals (tick t) = []
arrivals (register t n k ps) = []
arrivals (unregister t n) = []
arrivals (cancel t s) = []

-- whether a frame cancels a message after which `later` more were accepted: the one in force at its time that has its serial
abbrev pub cancels : Log → Frame → ℕ → Message → Bool
cancels log (message t s g ps) later m = false
cancels log (tick t) later m = false
cancels log (register t n k ps) later m = false
cancels log (unregister t n) later m = false
cancels log (cancel t s) later m = standing log.N log.T t later m && eqb m.serial s

abbrev pub queries_after : Frame → List (Option Query) → List (Option Query)
queries_after (message t s g ps) qs = qs
queries_after (tick t) qs = qs
queries_after (register t n k ps) qs = set qs n (some (record { k = k; terms = ps }))
queries_after (unregister t n) qs = set qs n none
queries_after (cancel t s) qs = qs

-- "Accepted, its time becomes the clock; then a message is added at the end, a registration fills its number, a drop empties it, a tick does no more",
-- and a cancelled message is noted as cancelled in its place.
unfoldable pub accept : Log → Frame → Log
accept log f =
    record {
      N = log.N;
      T = log.T;
      clock = time_of f;
      messages = noting (cancels log f) log.messages ++ arrivals f;
      queries = queries_after f log.queries;
    }

abbrev pub accept_shape : Log → Shape → Log
accept_shape log (refused r) = log
accept_shape log (accepted f) = accept log f

-- "Refused, it changes nothing."
unfoldable pub after : ℕ → Log → Call → Log
after needed log c = cond (eqb (judge needed log c) 0) (accept_shape log (shape c.bytes)) log

unfoldable pub replay : ℕ → Log → List Call → Log
replay needed log [] = log
replay needed log (c ∷ cs) = replay needed (after needed log c) cs

-- ---- departures

-- the messages that an accepted frame makes leave, in the order of acceptance
unfoldable pub departs : Log → Frame → List Message
departs log f = departing log.N log.T log.clock (time_of f) (length (arrivals f)) (cancels log f) log.messages

-- those that are in force before it and after it
unfoldable pub stays : Log → Frame → List Message
stays log f = remaining log.N log.T log.clock (time_of f) (length (arrivals f)) (cancels log f) log.messages

-- what it moves for a query: the messages that the query sees before it and not after it, then those that it sees after it and not before it
unfoldable pub moved_for : Log → Frame → Query → List Message
moved_for log f q = departs log f ++ arrivals f

abbrev pub departures_shape : Log → Shape → ℕ
departures_shape log (refused r) = 0
departures_shape log (accepted f) = length (departs log f)

-- "the number of messages in force before it and not after (departures)"; 0 where the frame is refused
unfoldable pub departures : ℕ → Log → Call → ℕ
departures needed log c = cond (eqb (judge needed log c) 0) (departures_shape log (shape c.bytes)) 0

-- ---- starting and reading

-- whether N and T are within their ranges
abbrev pub in_ranges : ℕ → ℕ → Bool
in_ranges N T = ltb 0 N && leb N most_messages && (ltb 0 T && leb T longest_life)

-- "Starting: 11, 12."
unfoldable pub judge_start : ℕ → ℕ → ℕ → ℕ
judge_start N T state =
    cond (in_ranges N T)
    (cond (eqb state state_length) 0 12)
    11

-- "A list reading: 12, 10", numbers above 31 included: the log has no such query
unfoldable pub judge_list : ℕ → Log → ℕ → ℕ → ℕ → ℕ
judge_list needed log state output n = cond (lent state output needed) (cond (is_in_use (query_at log n)) 0 10) 12

-- the list of a query that sees these messages
abbrev pub list_of : (Query → List Message) → Option Query → List Line
list_of ms none = []
list_of ms (some q) = lines (ranking q (ms q))

-- the entries of a list reading, none where it is refused
unfoldable pub listed : ℕ → Log → ℕ → ℕ → ℕ → List Line
listed needed log state output n = cond (eqb (judge_list needed log state output n) 0) (list_of (seen log) (query_at log n)) []

-- the postings of a term in force now
abbrev pub posted : Log → ℕ → List Line
posted log t = lines (postings t (in_force_now log))

-- "A posting reading: state length, 5, then output length"
unfoldable pub judge_postings : Log → ℕ → ℕ → ℕ → ℕ
judge_postings log state output t =
    cond (eqb state state_length)
    (cond (ltb t (2 ^ term_width)) (cond (leb (posting_length * length (posted log t)) output) 0 12) 5)
    12
