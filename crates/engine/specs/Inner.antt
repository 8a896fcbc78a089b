-- What the functions inside the engine ensure. Assumes nothing.
use Rattle.std.specs.Prelude.{ℕ, ◌+◌, ◌-◌, ◌%◌, ◌≤◌, ◌<◌, ◌^◌, ◌≡◌, Bool, true, false, not, ◌&&◌, List, ◌++◌, length, get_or, eqb, ltb}
use Rattle.std.specs.Prelude.{OnErr, IfOk, MatchResult}
use Rattle.std.specs.Prelude.{Result}
use Rattle.std.proofs.Math.Option.{Option, none, some}
use Rattle.paper.specs.declared.refusal.Refusal.{Refusal}
use Rattle.paper.specs.declared.refusal.Refusal.TheVariants.{NotInUse}
use Rattle.paper.specs.Frame.{Frame, Valid, numbers}
use Rattle.paper.specs.Rank.{Query}
use Rattle.paper.specs.Window.{Message}
use Rattle.paper.specs.Log.{Log, judge_frame, accept, departs}
use Rattle.paper.specs.Sound.{Queries}
use Rattle.paper.specs.Threshold.{reached}
use Rattle.paper.specs.Layout.{slots, record_at}
use Rattle.paper.specs.Demand3.{marked, bitmap}
use Rattle.memory.specs.Words.{words}
use Rattle.memory.specs.Keeps.{Keeps}
use Rattle.window.specs.Slot.{ring, live}
use Rattle.window.specs.Cursor.{PutCursor, Written, Cancelled}
use Rattle.query.specs.Record.{thresholds, HeldAt, HoldsAt, SameRecord}
use Rattle.query.specs.Move.{Move}
use Rattle.query.specs.Post.{Change, Tables}
use Rattle.engine.specs.declared.Reply.{Reply}
use Rattle.engine.specs.Told.{number_told}
use Rattle.engine.specs.Represents.{Represents, keeping}

-- whether a message that goes or comes reaches the query at a number
abbrev pub reached_in : List ℕ → ℕ → Option Query → (Query → List Message) → Bool
reached_in w q none ms = false
reached_in w q (some query) ms = reached query.terms (thresholds w q (length query.terms)) (ms query)

-- the message in slot j is cancelled, where that is one
pub record Silenced (j : ℕ) (w w' : List ℕ) : Type 0 where
  pub one : j < slots → Cancelled j w w'
  pub none : slots ≤ j → w' ≡ w

-- the first n records are updated for what a frame moves, and the marks of those reached are set
pub record Passed (n : ℕ) (w : List ℕ) (m : Move) (coming going : List ℕ) (marks : ℕ) (w' : List ℕ) : Type 0 where
  pub keeps : Keeps (record_at 0) (record_at n) w w'
  pub small : marks < 2 ^ n
  pub right : (w₀ : List ℕ) (o c : ℕ) (aa ga sa ca : List Message) (qs : List (Option Query)) → Tables w₀ m coming going → Change w₀ w o c m aa ga sa ca
      → Queries qs → ((q : ℕ) → q < numbers → HeldAt w₀ w q o c (λ _. aa) (get_or qs q none))
      → ((q : ℕ) → q < n → HoldsAt w' q m.first m.count (λ _. sa ++ ca) (get_or qs q none))
      × (marks ≡ bitmap (λ q. reached_in w q (get_or qs q none) (λ _. ga ++ ca)) n)
      × ((q : ℕ) → q < n → reached_in w q (get_or qs q none) (λ _. ga ++ ca) ≡ false → SameRecord w w' q)

-- all records are updated, by tables of the messages that come and go, and a message that the frame cancels is silent meanwhile and from then on
pub record Followed (w : List ℕ) (m : Move) (marks : ℕ) (w' : List ℕ) : Type 0 where
  pub coming : List ℕ
  pub going : List ℕ
  pub tables : Tables w m coming going
  pub silent : List ℕ
  pub silenced : Silenced m.cancelled w silent
  pub passed : Passed numbers silent m coming going marks w'

-- what a frame moves where n slots from slot o on were the window and n' of them, from slot o' on, keep their places
abbrev pub moving : (o n o' n' count newest cancelled serial : ℕ) → Move
moving o n o' n' count newest cancelled serial =
    record { gone = o; departed = n - n'; first = o'; count = count; newest = newest; cancelled = cancelled; serial = serial }

-- the window is n' slots from slot o' on, one of which may be cancelled, and every record is updated; the departures are those of the slots that left
pub record Departed (t cancelled serial o n o' n' : ℕ) (w : List ℕ) (r : Reply) (w' : List ℕ) : Type 0 where
  pub departures : r.departures ≡ length (live w (ring o (n - n')))
  pub few : r.departures < slots
  pub moved : List ℕ
  pub cursor : PutCursor t o' n' w moved
  pub followed : Followed moved (moving o n o' n' n' slots cancelled serial) r.marks w'

-- a message is taken into the slot after the window, which is then `n' + 1` slots from slot `o'` on, and every record is updated
pub record Joined (m : Message) (o n o' n' : ℕ) (w : List ℕ) (r : Reply) (w' : List ℕ) : Type 0 where
  pub departures : r.departures ≡ length (live w (ring o (n - n')))
  pub written : List ℕ
  pub message : Written ((o' + n') % slots) m w written
  pub moved : List ℕ
  pub cursor : PutCursor m.time o' (n' + 1) written moved
  pub followed : Followed moved (moving o n o' n' (n' + 1) ((o' + n') % slots) slots 0) r.marks w'

-- a frame that the log accepts is taken in
pub record Accepted (log : Log) (f : Frame) (w : List ℕ) (r : Reply) (w' : List ℕ) : Type 0 where
  pub holds : Represents (accept log f) w'
  pub marks : r.marks ≡ bitmap (marked log (keeping w) f) numbers
  pub departures : r.departures ≡ length (departs log f)
  pub untouched : (q : ℕ) → q < numbers → marked log (keeping w) f q ≡ false → SameRecord w w' q

-- a frame of one kind is judged by the history and taken in
pub record Did (f : Frame) (s : List ℕ) (r : Result Reply Refusal) (s' : List ℕ) : Type 0 where
  pub unchanged : OnErr r (s' ≡ s)
  pub right : (log : Log) → Represents log (words s) → Valid f
      → (number_told r ≡ judge_frame log f) × IfOk r (λ reply. Accepted log f (words s) reply (words s'))

-- the clock moves on with no message and no query changed
pub record Ticked (t : ℕ) (w : List ℕ) (r : Reply) (w' : List ℕ) : Type 0 where
  pub small : r.marks < 2 ^ numbers
  pub right : (log : Log) → Represents log w → t < 2 ^ 32 → log.clock ≤ t → Accepted log (Frame.tick t) w r w'

-- whether the number is that of a record in use
abbrev pub registered_in : List ℕ → ℕ → Bool
registered_in w n = ltb n numbers && not (eqb (get_or w (record_at n) 0) 0)

-- the number is that of a record in use, or refused
abbrev pub Registration : List ℕ → ℕ → Result ℕ Refusal → Type 0
Registration w n r = MatchResult r (λ q. (q ≡ n) × (registered_in w n ≡ true)) (λ e. (e ≡ NotInUse) × (registered_in w n ≡ false))
