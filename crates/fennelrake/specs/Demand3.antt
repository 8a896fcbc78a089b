-- Demand 3 at the C boundary: whatever frames a host hands one after another to a fresh engine, with whatever bytes lent for the answer, what is
-- kept and what the host hears is what the paper log says. The theorem is in proofs/Demand3.antt. Assumes nothing.
use Rattle.std.specs.Prelude.{ℕ, ◌≡◌, List, [], ◌∷◌, ◌++◌, length}
use Rattle.paper.specs.Layout.{state_length}
use Rattle.paper.specs.Log.{Log, Call, fresh, replay, judge_list, listed, judge_postings, posted}
use Rattle.paper.specs.Rank.{lines}
use Rattle.paper.specs.Search.{judge_search, found}
use Rattle.paper.specs.Closeness.{judge_closeness, closeness_in}
use Rattle.paper.specs.Screen.{judge_screen, screen_in}
use Rattle.paper.specs.Demand3.{AllSettled, Answered}
use Rattle.memory.specs.Words.{words}
use Rattle.rank.specs.Listing.{lines_of, TidyLines}
use Rattle.screen.specs.Lines.{lines_into}
use Rattle.engine.specs.Represents.{keeping}
use Rattle.engine.specs.Post.{reply_of, posted_into, PostingsPost, close_of, ScreenPost}
use Rattle.fennelrake.specs.Entry.{frame_answer, list_answer, search_answer, closeness_answer, FrameEntry, ListEntry, SearchEntry, ClosenessEntry}
use Rattle.fennelrake.specs.Entry.{heard_reply, heard_listing, heard_search, heard_closeness, heard_found}

-- what the paper log is fed: the bytes and the lengths lent
abbrev pub call_of : (s bytes a : List ℕ) → Call
call_of s bytes a = record { bytes = bytes; state = length s; output = length a }

-- frames handed one after another, each on the memory as the one before left it and with an answer of its own, chained by the promise of
-- `fennelrake_frame`
pub data Calls : List ℕ → List Call → List ℕ → Type 0 where
  none_left : {s : List ℕ} → Calls s [] s
  handed : {s s' s'' bytes a a' : List ℕ} {r : ℕ} {more : List Call} → FrameEntry s bytes a r s' a' → Calls s' more s'' → Calls s (call_of s bytes a ∷ more) s''

abbrev pub log_of : ℕ → ℕ → List Call → Log
log_of N T calls = replay frame_answer (fresh N T) calls

pub record Demand3 (N T : ℕ) (s : List ℕ) (calls : List Call) (s' : List ℕ) : Type 0 where
  -- "its kept list .. while it is short every threshold is 0", for each registered query
  pub settled : AllSettled (log_of N T calls) (keeping (words s'))
  -- "as a reading returns it": what the host hears, the unused places 0, whatever it lends
  pub readings : (n : ℕ) (a a' : List ℕ) (r : ℕ) → ListEntry s' n a r a'
      → (r ≡ judge_list list_answer (log_of N T calls) state_length (length a) n)
      × (lines_of (heard_listing r a').list ≡ listed list_answer (log_of N T calls) state_length (length a) n)
      × TidyLines (heard_listing r a').list
  -- "A posting reading .. returns how many there are and writes each one's serial and impact"; refused, it writes nothing
  pub postings : (t : ℕ) (out : List ℕ) (r : ℕ) (out' : List ℕ) → PostingsPost s' t out (heard_found r) out'
      → ((heard_found r).number ≡ judge_postings (log_of N T calls) state_length (length out) t)
      × ((heard_found r).number ≡ 0 → ((heard_found r).count ≡ length (posted (log_of N T calls) t)) × (out' ≡ posted_into (log_of N T calls) t out))
      × (((heard_found r).number ≡ 0 → ⊥) → ((heard_found r).count ≡ 0) × (out' ≡ out))
  -- a search: "The reply is the list that registering would give, and the postings read, equal to the steps of this rule"; refused, nothing
  pub searches : (bytes a a' : List ℕ) (r : ℕ) → SearchEntry s' bytes a r a'
      → (r ≡ judge_search search_answer bytes state_length (length a))
      × (lines_of (heard_search r a').list ≡ lines (found search_answer (log_of N T calls) bytes state_length (length a)).list)
      × ((heard_search r a').read ≡ (found search_answer (log_of N T calls) bytes state_length (length a)).read)
      × TidyLines (heard_search r a').list
  -- a closeness: "the quotient and exact remainder of 1000 × s² by a × b", of a message in force and a registered query; refused, nothing
  pub closenesses : (serial n : ℕ) (a a' : List ℕ) (r : ℕ) → ClosenessEntry s' serial n a r a'
      → (r ≡ judge_closeness closeness_answer (log_of N T calls) state_length (length a) serial n)
      × (close_of (heard_closeness r a') ≡ closeness_in closeness_answer (log_of N T calls) state_length (length a) serial n)
  -- a screen: "in each [round], every query with an unplaced entry gets one for its highest such entry, in rising query number, until lines or entries
  -- end. The reply is these lines in order .. and their number"; refused, nothing
  pub screens : (B : ℕ) (out : List ℕ) (r : ℕ) (out' : List ℕ) → ScreenPost s' B out (heard_found r) out'
      → ((heard_found r).number ≡ judge_screen B state_length (length out))
      × ((heard_found r).count ≡ length (screen_in B (log_of N T calls) state_length (length out)))
      × (out' ≡ lines_into (screen_in B (log_of N T calls) state_length (length out)) out)
  -- "A query registered before and after the last frame is marked by it exactly when ..; unmarked, its thresholds, candidates and list are as they
  -- were"
  pub last : (first : List Call) (bytes a a' s₁ : List ℕ) (r : ℕ) → calls ≡ first ++ (call_of s₁ bytes a ∷ []) → Calls s first s₁
      → FrameEntry s₁ bytes a r s' a'
      → Answered frame_answer (log_of N T first) (keeping (words s₁)) (call_of s₁ bytes a) (reply_of (heard_reply r a')) (keeping (words s'))
