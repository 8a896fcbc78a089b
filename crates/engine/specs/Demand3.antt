-- Demand 3: whatever frames are handed one after another to a fresh engine, what it keeps is what the paper log says.
-- The theorem is in proofs/Demand3.antt. Assumes nothing.
use Rattle.std.specs.Prelude.{ℕ, ◌≡◌, List, [], ◌∷◌, ◌++◌, length}
use Rattle.paper.specs.Layout.{state_length}
use Rattle.paper.specs.Log.{Log, Call, fresh, replay, judge_list, listed, judge_postings, posted}
use Rattle.paper.specs.Rank.{lines}
use Rattle.paper.specs.Search.{judge_search, found}
use Rattle.paper.specs.Closeness.{judge_closeness, closeness_in}
use Rattle.paper.specs.Screen.{judge_screen, screen_in}
use Rattle.paper.specs.Demand3.{AllSettled, Answered}
use Rattle.memory.specs.Words.{words}
use Rattle.rank.specs.Listing.{lines_of, TidyLines}
use Rattle.screen.specs.Lines.{lines_into}
use Rattle.engine.specs.Told.{ToldReply, ToldList, ToldCount, ToldSearch, ToldCloseness}
use Rattle.engine.specs.Represents.{keeping}
use Rattle.engine.specs.Post.{call_of, reply_of, FramePost, ListPost, posted_into, PostingsPost, SearchPost, close_of, ClosenessPost, ScreenPost}

-- frames handed one after another, each on the memory as the one before left it, chained by the promise of `frame`
pub data Frames : List ℕ → List (List ℕ) → List ℕ → Type 0 where
  none_left : {s : List ℕ} → Frames s [] s
  handed : {s s' s'' : List ℕ} {bytes : List ℕ} {more : List (List ℕ)} (r : ToldReply) → FramePost s bytes r s' → Frames s' more s''
      → Frames s (bytes ∷ more) s''

-- the calls that the paper log is fed
abbrev pub calls_of : List ℕ → List (List ℕ) → List Call
calls_of s [] = []
calls_of s (bytes ∷ more) = call_of s bytes ∷ calls_of s more

abbrev pub log_of : ℕ → ℕ → List ℕ → List (List ℕ) → Log
log_of N T s frames = replay 0 (fresh N T) (calls_of s frames)

pub record Demand3 (N T : ℕ) (s : List ℕ) (frames : List (List ℕ)) (s' : List ℕ) : Type 0 where
  -- "its kept list .. equals the one ranked afresh from the paper log; its candidates are exactly the messages in force with an impact above its
  -- threshold in one of its terms; while its list is full the threshold sum is below the last listed score, and no threshold below the top of
  -- its scale could be one higher without reaching it; while it is short every threshold is 0": `Settled` of each registered query
  pub settled : AllSettled (log_of N T s frames) (keeping (words s'))
  -- "as a reading returns it": serials, scores and number of entries, the unused ones 0, or 10 where the log has no such query
  pub readings : (n : ℕ) (r : ToldList) → ListPost s' n r
      → (r.number ≡ judge_list 0 (log_of N T s frames) state_length 0 n)
      × (lines_of r.list ≡ listed 0 (log_of N T s frames) state_length 0 n)
      × TidyLines r.list
  -- "A posting reading .. returns how many there are and writes each one's serial and impact"; refused, it writes nothing
  pub postings : (t : ℕ) (out : List ℕ) (r : ToldCount) (out' : List ℕ) → PostingsPost s' t out r out'
      → (r.number ≡ judge_postings (log_of N T s frames) state_length (length out) t)
      × (r.number ≡ 0 → (r.count ≡ length (posted (log_of N T s frames) t)) × (out' ≡ posted_into (log_of N T s frames) t out))
      × ((r.number ≡ 0 → ⊥) → (r.count ≡ 0) × (out' ≡ out))
  -- a search: "The reply is the list that registering would give, and the postings read, equal to the steps of this rule"; refused, nothing
  pub searches : (bytes : List ℕ) (r : ToldSearch) → SearchPost s' bytes r
      → (r.number ≡ judge_search 0 bytes state_length 0)
      × (lines_of r.list ≡ lines (found 0 (log_of N T s frames) bytes state_length 0).list)
      × (r.read ≡ (found 0 (log_of N T s frames) bytes state_length 0).read)
      × TidyLines r.list
  -- a closeness: "the quotient and exact remainder of 1000 × s² by a × b", of a message in force and a registered query; refused, nothing
  pub closenesses : (serial n : ℕ) (r : ToldCloseness) → ClosenessPost s' serial n r
      → (r.number ≡ judge_closeness 0 (log_of N T s frames) state_length 0 serial n)
      × (close_of r ≡ closeness_in 0 (log_of N T s frames) state_length 0 serial n)
  -- a screen: "in each [round], every query with an unplaced entry gets one for its highest such entry, in rising query number, until lines or entries
  -- end. The reply is these lines in order .. and their number"; refused, nothing
  pub screens : (B : ℕ) (out : List ℕ) (r : ToldCount) (out' : List ℕ) → ScreenPost s' B out r out'
      → (r.number ≡ judge_screen B state_length (length out))
      × (r.count ≡ length (screen_in B (log_of N T s frames) state_length (length out)))
      × (out' ≡ lines_into (screen_in B (log_of N T s frames) state_length (length out)) out)
  -- "A query registered before and after the last frame is marked by it exactly when an arriving or departing message has, in one of its terms,
  -- an impact above the threshold it had there before that frame; unmarked, its thresholds, candidates and list are as they were"
  pub last : (first : List (List ℕ)) (bytes : List ℕ) (r : ToldReply) (s₁ : List ℕ) → frames ≡ first ++ (bytes ∷ []) → Frames s first s₁
      → FramePost s₁ bytes r s'
      → Answered 0 (log_of N T s first) (keeping (words s₁)) (call_of s bytes) (reply_of r) (keeping (words s'))
