-- DEMAND 3 at the C boundary, proved. Its statement is in specs/Demand3.antt. Assumes nothing.
use Prim.Native.Nat.{ℕ, ◌≤◌, ◌<◌}
use mathlib.Core.Path.{◌≡◌, refl, sym, ap, ◌∙◌, subst}
use mathlib.Core.Bool.{Bool, true, false}
use mathlib.Core.List.{List}
use lib.ListN.{length}
use lib.Dec.{leb}
use borrow.Author.Tests.{leb-true, leb-false}
use Rattle.paper.specs.Frame.{numbers}
use Rattle.paper.specs.Layout.{state_length}
use Rattle.paper.specs.Log.{Log, Call, fresh, after, replay, judge_list, listed}
use Rattle.paper.specs.Rank.{lines}
use Rattle.paper.specs.Search.{judge_search, found}
use Rattle.paper.specs.Closeness.{judge_closeness, closeness_in}
use Rattle.paper.specs.Demand3.{reply_to, marked_by, Answered}
use Rattle.paper.proofs.MarkLaws.{answered_by_log}
use Rattle.memory.specs.Words.{words}
use Rattle.rank.specs.Listing as Listing
use Rattle.rank.specs.Listing.{lines_of, TidyLines}
use Rattle.engine.specs.Represents.{Represents, keeping}
use Rattle.engine.specs.Post.{reply_of, close_of, StartPost}
use Rattle.engine.proofs.RepresentsLaws.{all_settled}
use Rattle.engine.proofs.ToldLaws.{no_entry_tidy}
use Rattle.engine.proofs.Demand3.{begun, begun_long}
use Rattle.fennelrake.specs.Entry.{frame_answer, list_answer, search_answer, closeness_answer, FrameEntry, ListEntry, SearchEntry, ClosenessEntry}
use Rattle.fennelrake.specs.Entry.{heard_reply, heard_listing, heard_search, heard_closeness}
use Rattle.fennelrake.specs.Demand3.{call_of, Calls, log_of, Demand3}
use Rattle.fennelrake.specs.Demand3.Calls.{none_left, handed}
use Rattle.fennelrake.proofs.LentLaws.{after_enough, reply_enough, marked_enough, after_short, reply_short, list_enough, lines_enough}
use Rattle.fennelrake.proofs.LentLaws.{list_short, lines_short, search_enough, search_short, compare_enough, compare_short, closeness_enough, closeness_short}
use Rattle.fennelrake.proofs.LentLaws as Lent

-- enough bytes, or too few
by_length : {P : Type 0} (needed n : ℕ) → (needed ≤ n → P) → (n < needed → P) → P
by_length {P} needed n enough short = go (leb needed n) refl
  where
    go : (t : Bool) → leb needed n ≡ t → P
    go true e = enough (leb-true needed n e)
    go false e = short (leb-false needed n e)

-- ---- one frame

record Stepped (log : Log) (s bytes a : List ℕ) (r : ℕ) (s' a' : List ℕ) : Type 0 where
  long : length s' ≡ state_length
  holds : Represents (after frame_answer log (call_of s bytes a)) (words s')
  answered : Answered frame_answer log (keeping (words s)) (call_of s bytes a) (reply_of (heard_reply r a')) (keeping (words s'))

module _ (log : Log) (s bytes a : List ℕ) (r : ℕ) (s' a' : List ℕ) (is : Represents log (words s)) (l : length s ≡ state_length)
    (p : FrameEntry s bytes a r s' a') where
  abbrev answers : reply_of (heard_reply r a') ≡ reply_to frame_answer log (keeping (words s)) (call_of s bytes a)
      → ((q : ℕ) → q < numbers → marked_by frame_answer log (keeping (words s)) (call_of s bytes a) q ≡ false → keeping (words s') q ≡ keeping (words s) q)
      → Answered frame_answer log (keeping (words s)) (call_of s bytes a) (reply_of (heard_reply r a')) (keeping (words s'))
  answers =
      answered_by_log frame_answer log (keeping (words s)) (call_of s bytes a) (reply_of (heard_reply r a')) (keeping (words s'))
      (all_settled log (words s) is)

  step_enough : frame_answer ≤ length a → Stepped log s bytes a r s' a'
  step_enough h =
      let post = p.enough h in
      let right = post.right log is l in
      record {
        long = post.long ∙ l;
        holds = subst (λ (x : Log). Represents x (words s')) (sym (after_enough frame_answer log (call_of s bytes a) h)) right.holds;
        answered =
            answers
            (right.reply ∙ sym (reply_enough frame_answer log (call_of s bytes a) h (keeping (words s))))
            (λ q k u. (right.untouched q k (sym (marked_enough frame_answer log (call_of s bytes a) h (keeping (words s)) q) ∙ u)).1);
      }

  step_short : length a < frame_answer → Stepped log s bytes a r s' a'
  step_short h =
      let short = p.short h in
      record {
        long = ap length short.1 ∙ l;
        holds = rw (after_short frame_answer log (call_of s bytes a) h, short.1) is;
        answered =
            answers
            (rw short.0 (sym (reply_short frame_answer log (call_of s bytes a) h (keeping (words s)))))
            (λ q k u. ap (λ (x : List ℕ). keeping (words x) q) short.1);
      }

  step : Stepped log s bytes a r s' a'
  step = by_length frame_answer (length a) step_enough step_short

-- whatever frames are handed, the memory holds the log of them
holds : {s s' : List ℕ} {calls : List Call} (log : Log) → Represents log (words s) → length s ≡ state_length → Calls s calls s'
    → Represents (replay frame_answer log calls) (words s') × (length s' ≡ state_length)
unfolding replay
holds log is l none_left = (is, l)
holds log is l (handed {s = s} {s' = s'} {bytes = bytes} {a = a} {a' = a'} {r = r} p rest) =
    let x = step log s bytes a r s' a' is l p in
    holds (after frame_answer log (call_of s bytes a)) x.holds x.long rest

-- ---- a list reading

module _ (log : Log) (s : List ℕ) (n : ℕ) (a a' : List ℕ) (r : ℕ) (is : Represents log (words s)) (l : length s ≡ state_length) (p : ListEntry s n a r a') where
  abbrev Heard : Type 0
  Heard =
      (r ≡ judge_list list_answer log state_length (length a) n)
      × (lines_of (heard_listing r a').list ≡ listed list_answer log state_length (length a) n)
      × TidyLines (heard_listing r a').list

  heard_enough : list_answer ≤ length a → Heard
  heard_enough h =
      let t = (p.enough h).right log is l in (
        t.0 ∙ ap (λ (x : ℕ). judge_list 0 log x 0 n) l ∙ sym (list_enough list_answer log state_length (length a) n h),
        t.1 ∙ ap (λ (x : ℕ). listed 0 log x 0 n) l ∙ sym (lines_enough list_answer log state_length (length a) n h),
        t.2,
      )

  heard_short : length a < list_answer → Heard
  unfolding Listing.listed
  heard_short h =
      rw (p.short h)
      (sym (list_short list_answer log state_length (length a) n h), sym (lines_short list_answer log state_length (length a) n h), no_entry_tidy)

  heard : Heard
  heard = by_length list_answer (length a) heard_enough heard_short

-- ---- a search

module _ (log : Log) (s bytes a a' : List ℕ) (r : ℕ) (is : Represents log (words s)) (l : length s ≡ state_length) (p : SearchEntry s bytes a r a') where
  abbrev HeardSearch : Type 0
  HeardSearch =
      (r ≡ judge_search search_answer bytes state_length (length a))
      × (lines_of (heard_search r a').list ≡ lines (found search_answer log bytes state_length (length a)).list)
      × ((heard_search r a').read ≡ (found search_answer log bytes state_length (length a)).read)
      × TidyLines (heard_search r a').list

  found_enough : search_answer ≤ length a → HeardSearch
  found_enough h =
      let post = p.enough h in
      let t = post.right log is in
      rw (search_enough search_answer log bytes state_length (length a) h, Lent.found_enough search_answer log bytes state_length (length a) h, ← l)
      (post.number, t.0, t.1, post.tidy)

  found_short : length a < search_answer → HeardSearch
  unfolding Listing.listed
  found_short h =
      rw (p.short h, search_short search_answer log bytes state_length (length a) h, Lent.found_short search_answer log bytes state_length (length a) h)
      (refl, refl, refl, no_entry_tidy)

  searched : HeardSearch
  searched = by_length search_answer (length a) found_enough found_short

-- ---- a closeness

module _ (log : Log) (s : List ℕ) (serial n : ℕ) (a a' : List ℕ) (r : ℕ) (is : Represents log (words s)) (l : length s ≡ state_length)
    (p : ClosenessEntry s serial n a r a') where
  abbrev HeardCloseness : Type 0
  HeardCloseness =
      (r ≡ judge_closeness closeness_answer log state_length (length a) serial n)
      × (close_of (heard_closeness r a') ≡ closeness_in closeness_answer log state_length (length a) serial n)

  close_enough : closeness_answer ≤ length a → HeardCloseness
  close_enough h =
      let t = (p.enough h).right log is l in
      rw (
        compare_enough closeness_answer log state_length (length a) serial n h,
        closeness_enough closeness_answer log state_length (length a) serial n h,
        ← l,
      ) t

  close_short : length a < closeness_answer → HeardCloseness
  close_short h =
      rw (
        p.short h,
        compare_short closeness_answer log state_length (length a) serial n h,
        closeness_short closeness_answer log state_length (length a) serial n h,
      )
      (refl, refl)

  compared : HeardCloseness
  compared = by_length closeness_answer (length a) close_enough close_short

-- ---- all

module _ (N T : ℕ) (s₀ s : List ℕ) (n : ℕ) (start : StartPost N T s₀ n s) (ok : n ≡ 0) where
  -- what a list of frames leaves
  left : {s' : List ℕ} {calls : List Call} → Calls s calls s' → Represents (log_of N T calls) (words s') × (length s' ≡ state_length)
  left all = holds (fresh N T) (begun N T s₀ s n start ok) (begun_long N T s₀ s n start ok) all

  -- DEMAND 3
  pub demand3 : {s' : List ℕ} {calls : List Call} → Calls s calls s' → Demand3 N T s calls s'
  demand3 {s'} {calls} all =
      let h = left all in
      record {
        settled = all_settled (log_of N T calls) (words s') h.0;
        readings = λ q a a' r p. heard (log_of N T calls) s' q a a' r h.0 h.1 p;
        postings = λ t out r out' p.
            let x = p.right (log_of N T calls) h.0 h.1 in
            rw (← h.1) (x.0, x.1, λ z. ((p.refused z).1, (p.refused z).0));
        searches = λ bytes a a' r p. searched (log_of N T calls) s' bytes a a' r h.0 h.1 p;
        closenesses = λ serial q a a' r p. compared (log_of N T calls) s' serial q a a' r h.0 h.1 p;
        screens = λ B out r out' p.
            let x = p.right (log_of N T calls) h.0 in
            rw (← h.1) (p.number, x.0, x.1);
        last = λ first bytes a a' s₁ r e before p.
            let b = left before in
            (step (log_of N T first) s₁ bytes a r s' a' b.0 b.1 p).answered;
      }
