-- The promises of the engine's calls. `s` is the lent state memory before the call and `s'` after it, in bytes. Assumes nothing.
use Rattle.std.specs.Prelude.{ℕ, ◌*◌, ◌≤◌, ◌<◌, ◌^◌, ◌≡◌, ◌⊎◌, false, List, [], ◌++◌, length, take, drop, replicate}
use Rattle.paper.specs.Frame.{shape, numbers, serial_width, term_width, most_listed}
use Rattle.paper.specs.Frame.Shape.{refused}
use Rattle.paper.specs.Layout.{state_length, record_at, record_words, capacity_at, life_at}
use Rattle.paper.specs.Log.{Log, Call, judge_start, after, judge_list, listed, posting_length, posted, judge_postings}
use Rattle.paper.specs.Rank.{lines}
use Rattle.paper.specs.Search.{judge_search, found}
use Rattle.paper.specs.Closeness.{Closeness, whole, judge_closeness, closeness_in}
use Rattle.paper.specs.Screen.{screen_line_length, judge_screen, screen_in}
use Rattle.paper.specs.Demand3.{reply_to, marked_by}
use Rattle.paper.specs.Demand3 as Demand3
use Rattle.memory.specs.Words.{words, put_word}
use Rattle.rank.specs.Listing.{lines_of, TidyLines}
use Rattle.posting.specs.Lines.{line_bytes}
use Rattle.screen.specs.Lines.{lines_into}
use Rattle.engine.specs.Told.{ToldReply, ToldList, ToldCount, ToldSearch, ToldCloseness}
use Rattle.engine.specs.Represents.{Represents, keeping}

-- a call with these bytes on state memory of this length; nothing is written into lent output
abbrev pub call_of : List ℕ → List ℕ → Call
call_of s bytes = record { bytes = bytes; state = length s; output = 0 }

abbrev pub reply_of : ToldReply → Demand3.Reply
reply_of r = record { number = r.number; marks = r.marks; departures = r.departures }

-- the bytes of a query's record
abbrev pub record_bytes : List ℕ → ℕ → List ℕ
record_bytes s q = take (4 * record_words) (drop (4 * record_at q) s)

-- ---- start

-- zeros, but for N and T
unfoldable pub fresh_memory : ℕ → ℕ → List ℕ
fresh_memory N T = put_word (put_word (replicate state_length 0) capacity_at N) life_at T

-- "Starting: 11, 12."
pub record StartPost (N T : ℕ) (s : List ℕ) (r : ℕ) (s' : List ℕ) : Type 0 where
  pub number : r ≡ judge_start N T (length s)
  pub unchanged : (r ≡ 0 → ⊥) → s' ≡ s
  pub started : r ≡ 0 → s' ≡ fresh_memory N T

-- ---- frame

-- For memory that holds a log: the reply and the log after the call are the paper's; a record that the call doesn't mark is the same bytes, and so
-- keeps the same.
pub record FrameRight (log : Log) (s bytes : List ℕ) (r : ToldReply) (s' : List ℕ) : Type 0 where
  pub reply : reply_of r ≡ reply_to 0 log (keeping (words s)) (call_of s bytes)
  pub holds : Represents (after 0 log (call_of s bytes)) (words s')
  pub untouched : (q : ℕ) → q < numbers → marked_by 0 log (keeping (words s)) (call_of s bytes) q ≡ false
      → (record_bytes s' q ≡ record_bytes s q) × (keeping (words s') q ≡ keeping (words s) q)

-- "Order for a frame: state length (12), then 1 to 10", 14 between 4 and 5 and 13 in the place of 8. Whatever the memory holds, 12, 1 to 6 and 14 are by the
-- lengths and bytes alone, and
-- "A refusal returns its number, all else returned is 0, and no memory changes."
pub record FramePost (s bytes : List ℕ) (r : ToldReply) (s' : List ℕ) : Type 0 where
  pub long : length s' ≡ length s
  pub not_lent : (length s ≡ state_length → ⊥) → r.number ≡ 12
  pub shaped : length s ≡ state_length → (n : ℕ) → shape bytes ≡ refused n → r.number ≡ n
  pub unchanged : (r.number ≡ 0 → ⊥) → (s' ≡ s) × (r.marks ≡ 0) × (r.departures ≡ 0)
  pub right : (log : Log) → Represents log (words s) → length s ≡ state_length → FrameRight log s bytes r s'

-- ---- readings

-- "A list reading: 12, 10; its answer holds sixteen serials and scores, unused ones 0, and the number of entries."
pub record ListPost (s : List ℕ) (n : ℕ) (r : ToldList) : Type 0 where
  pub not_lent : (length s ≡ state_length → ⊥) → r.number ≡ 12
  pub no_number : length s ≡ state_length → numbers ≤ n → r.number ≡ 10
  pub most : r.list.count ≤ most_listed
  pub refused : (r.number ≡ 0 → ⊥) → (lines_of r.list ≡ []) × TidyLines r.list
  pub right : (log : Log) → Represents log (words s) → length s ≡ state_length
      → (r.number ≡ judge_list 0 log (length s) 0 n) × (lines_of r.list ≡ listed 0 log (length s) 0 n) × TidyLines r.list

-- the postings, and then what stood there before: "Output past what a call writes is unchanged."
abbrev pub posted_into : Log → ℕ → List ℕ → List ℕ
posted_into log t out = line_bytes (posted log t) ++ drop (posting_length * length (posted log t)) out

-- "A posting reading: state length, 5, then output length; it returns how many there are and writes each one's serial and impact."
pub record PostingsPost (s : List ℕ) (t : ℕ) (out : List ℕ) (r : ToldCount) (out' : List ℕ) : Type 0 where
  pub long : length out' ≡ length out
  pub not_lent : (length s ≡ state_length → ⊥) → r.number ≡ 12
  pub no_term : length s ≡ state_length → 2 ^ term_width ≤ t → r.number ≡ 5
  pub refused : (r.number ≡ 0 → ⊥) → (out' ≡ out) × (r.count ≡ 0)
  pub right : (log : Log) → Represents log (words s) → length s ≡ state_length
      → (r.number ≡ judge_postings log (length s) (length out) t) × (r.number ≡ 0 → (r.count ≡ length (posted log t)) × (out' ≡ posted_into log t out))

-- "judged by 12 and then 1 to 6", whatever the memory holds. "The reply is the list that registering would give, and the postings read, equal to the steps
-- of this rule": paper's search of the log. The memory is lent to be read only.
pub record SearchPost (s bytes : List ℕ) (r : ToldSearch) : Type 0 where
  pub number : r.number ≡ judge_search 0 bytes (length s) 0
  pub most : r.list.count ≤ most_listed
  pub tidy : TidyLines r.list
  pub refused : (r.number ≡ 0 → ⊥) → (lines_of r.list ≡ []) × (r.read ≡ 0)
  pub right : (log : Log) → Represents log (words s)
      → (lines_of r.list ≡ lines (found 0 log bytes (length s) 0).list) × (r.read ≡ (found 0 log bytes (length s) 0).read)

abbrev pub close_of : ToldCloseness → Closeness
close_of r = record { quotient = r.quotient; remainder = r.remainder }

-- "Arguments are a serial in force and a registered query, refused as 13 and 10, in that order, after 12." Whatever the memory holds, no message has a
-- serial above 1,048,575, no query a number above 31, and no quotient is above 1,000. The memory is lent to be read only.
pub record ClosenessPost (s : List ℕ) (serial n : ℕ) (r : ToldCloseness) : Type 0 where
  pub not_lent : (length s ≡ state_length → ⊥) → r.number ≡ 12
  pub no_serial : length s ≡ state_length → 2 ^ serial_width ≤ serial → r.number ≡ 13
  pub no_number : length s ≡ state_length → numbers ≤ n → (r.number ≡ 13) ⊎ (r.number ≡ 10)
  pub most : r.quotient ≤ whole
  pub refused : (r.number ≡ 0 → ⊥) → (r.quotient ≡ 0) × (r.remainder ≡ 0)
  pub right : (log : Log) → Represents log (words s) → length s ≡ state_length
      → (r.number ≡ judge_closeness 0 log (length s) 0 serial n)
      × (close_of r ≡ closeness_in 0 log (length s) 0 serial n)

-- "B above 512 is refused as 5, after the state length (12) and before the output's (12), which must hold B lines": whatever the memory holds, by the
-- lengths and B alone. There are never more than B lines, and nothing is written past them. "The reply is these lines in order .. and their number." The
-- memory is lent to be read only.
pub record ScreenPost (s : List ℕ) (B : ℕ) (out : List ℕ) (r : ToldCount) (out' : List ℕ) : Type 0 where
  pub number : r.number ≡ judge_screen B (length s) (length out)
  pub most : r.count ≤ B
  pub long : length out' ≡ length out
  pub past : drop (screen_line_length * r.count) out' ≡ drop (screen_line_length * r.count) out
  pub refused : (r.number ≡ 0 → ⊥) → (out' ≡ out) × (r.count ≡ 0)
  pub right : (log : Log) → Represents log (words s)
      → (r.count ≡ length (screen_in B log (length s) (length out))) × (out' ≡ lines_into (screen_in B log (length s) (length out)) out)
