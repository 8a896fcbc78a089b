-- What the C entries promise, of what a host hears: the number returned, and the words of the lent answer, the most significant byte first.
-- Document 01, "Replies". Assumes nothing.
use Rattle.std.specs.Prelude.{ℕ, ◌+◌, ◌*◌, ◌/◌, ◌%◌, ◌≤◌, ◌<◌, ◌≡◌, cond, List, [], ◌∷◌, length, get_or, take, drop, eqb}
use Rattle.paper.specs.Frame.{most_listed}
use Rattle.memory.specs.Words.{big_words}
use Rattle.rank.specs.declared.Lines.{Lines}
use Rattle.frame.specs.Write.{Written}
use Rattle.engine.specs.Told.{ToldReply, ToldList, no_entry, ToldCount, ToldSearch, ToldCloseness}
use Rattle.engine.specs.Post.{FramePost, ListPost, SearchPost, ClosenessPost}

-- how many bytes the answers take, in words of four: marks and departures; the number of entries, then serials and scores
abbrev pub frame_answer : ℕ
frame_answer = 4 * 2

abbrev pub list_answer : ℕ
list_answer = 4 * (1 + 2 * most_listed)

-- "A refusal returns its number, all else returned is 0, and no memory changes." "Output past what a call writes is unchanged."
pub record Output (written number : ℕ) (a a' : List ℕ) : Type 0 where
  pub long : length a' ≡ length a
  pub past : drop written a' ≡ drop written a
  pub refused : (number ≡ 0 → ⊥) → a' ≡ a

-- ---- frame

-- marks and departures are the first two words of the answer, and 0 with a refusal
abbrev pub heard_reply : ℕ → List ℕ → ToldReply
heard_reply r a = record {
  number = r;
  marks = cond (eqb r 0) (get_or (big_words a) 0 0) 0;
  departures = cond (eqb r 0) (get_or (big_words a) 1 0) 0;
}

-- "Where a C entry writes a frame's or a list's answer into lent bytes, too few of them is 12, judged with the state length."
pub record FrameEntry (s bytes a : List ℕ) (r : ℕ) (s' a' : List ℕ) : Type 0 where
  pub short : length a < frame_answer → (r ≡ 12) × (s' ≡ s)
  pub enough : frame_answer ≤ length a → FramePost s bytes (heard_reply r a') s'
  pub output : Output frame_answer r a a'

-- ---- list

-- the number of entries is the first word of the answer, then the serials, then the scores; no entry with a refusal
abbrev pub heard_list : List ℕ → Lines
heard_list w = record { serials = take most_listed (drop 1 w); scores = take most_listed (drop (1 + most_listed) w); count = get_or w 0 0 }

abbrev pub heard_listing : ℕ → List ℕ → ToldList
heard_listing r a = record { number = r; list = cond (eqb r 0) (heard_list (big_words a)) no_entry }

pub record ListEntry (s : List ℕ) (n : ℕ) (a : List ℕ) (r : ℕ) (a' : List ℕ) : Type 0 where
  pub short : length a < list_answer → r ≡ 12
  pub enough : list_answer ≤ length a → ListPost s n (heard_listing r a')
  pub output : Output list_answer r a a'

-- ---- search

-- what a list's answer holds, and a word more: the postings read
abbrev pub search_answer : ℕ
search_answer = list_answer + 4

abbrev pub heard_search : ℕ → List ℕ → ToldSearch
heard_search r a = record {
  number = r;
  list = (heard_listing r a).list;
  read = cond (eqb r 0) (get_or (big_words a) (1 + 2 * most_listed) 0) 0;
}

pub record SearchEntry (s bytes a : List ℕ) (r : ℕ) (a' : List ℕ) : Type 0 where
  pub short : length a < search_answer → r ≡ 12
  pub enough : search_answer ≤ length a → SearchPost s bytes (heard_search r a')
  pub output : Output search_answer r a a'

-- ---- closeness

-- quotient and remainder
abbrev pub closeness_answer : ℕ
closeness_answer = 4 * 2

abbrev pub heard_closeness : ℕ → List ℕ → ToldCloseness
heard_closeness r a = record {
  number = r;
  quotient = cond (eqb r 0) (get_or (big_words a) 0 0) 0;
  remainder = cond (eqb r 0) (get_or (big_words a) 1 0) 0;
}

pub record ClosenessEntry (s : List ℕ) (serial n : ℕ) (a : List ℕ) (r : ℕ) (a' : List ℕ) : Type 0 where
  pub short : length a < closeness_answer → r ≡ 12
  pub enough : closeness_answer ≤ length a → ClosenessPost s serial n (heard_closeness r a')
  pub output : Output closeness_answer r a a'

-- ---- postings

-- number and count in one number
abbrev pub heard_found : ℕ → ToldCount
heard_found r = record { number = r / 4294967296; count = r % 4294967296 }

-- ---- write

-- terms of two bytes each, the most significant first; a last byte that makes no term is left out
unfoldable pub terms_of : List ℕ → List ℕ
terms_of [] = []
terms_of (a ∷ []) = []
terms_of (a ∷ b ∷ s) = (a * 256 + b) ∷ terms_of s

-- number and length in one number
abbrev pub heard_writing : ℕ → Written
heard_writing r = record { number = r / 4294967296; length = r % 4294967296 }
