-- A posting reading: what it answers where the memory holds a log. Assumes nothing.
use Prim.Native.Nat.{ℕ, ◌*◌, ◌/◌, ◌≤◌, ◌<◌, ◌^◌}
use native.Mathlib.Omega.{arith}
use mathlib.Core.Path.{◌≡◌, refl, sym, subst}
use mathlib.Core.Bool.{Bool, cond}
use mathlib.Core.List.{List, map}
use lib.ListN.{length}
use lib.Dec.{ltb, leb}
use borrow.Author.Tests.{eq-eqb, lt-ltb, le-ltb, le-leb, lt-leb}
use Rattle.std.specs.Prelude.{Ok, Err}
use Rattle.paper.specs.declared.refusal.Refusal.TheVariants.{Value, Memory}
use Rattle.paper.specs.Frame.{term_width}
use Rattle.paper.specs.Layout.{state_length}
use Rattle.paper.specs.Log.{Log, in_force_now, filled_now, posted, judge_postings, posting_length}
use Rattle.paper.specs.Sort.{select}
use Rattle.paper.specs.Sound.{Messages}
use Rattle.paper.proofs.LogLaws.{in_force_valid}
use Rattle.paper.proofs.WindowLaws.{active, in_force_filled}
use Rattle.memory.specs.Words.{words}
use Rattle.window.specs.Slot.{held, window}
use Rattle.window.specs.Cursor.{Loaded}
use Rattle.posting.specs.Posting.{Counted, Filled}
use Rattle.posting.proofs.PaperLaws.{counted_postings, filled_postings}
use Rattle.engine.specs.Told.{told_count}
use Rattle.engine.specs.Represents.{Represents}
use Rattle.engine.specs.Post.{posted_into, PostingsPost}

module _ (s : List ℕ) (t : ℕ) (out : List ℕ) where
  module _ (long : length s ≡ state_length) where
    judged : (log : Log) {b d : Bool} → ltb t (2 ^ 10) ≡ b → leb (posting_length * length (posted log t)) (length out) ≡ d
        → judge_postings log (length s) (length out) t ≡ cond b (cond d 0 12) 5
    unfolding judge_postings
    judged log e f = rw (eq-eqb (length s) state_length long, e, f) refl

    pub postings_no_term : 2 ^ term_width ≤ t → PostingsPost s t out (told_count (Err Value)) out
    postings_no_term h = record {
      long = refl;
      not_lent = λ k. absurd (k long);
      no_term = λ _ _. refl;
      refused = λ _. (refl, refl);
      right = λ log r _. (sym (judged log (le-ltb t (2 ^ term_width) (omega arith)) refl), λ e. absurd (omega arith));
    }

    -- the window holds the messages in force, so what is counted and written is paper's
    module _ (h : t < 2 ^ term_width) {clock o n found : ℕ} (l : Loaded (words s) clock o n) (c : Counted t n (window (words s) o n) found) where
      shown : (log : Log) → Represents log (words s) → window (words s) o n ≡ map held (filled_now log)
      shown log r = rw (l.oldest_is r.oldest_below, l.count_is r.count_below) r.shows

      -- those that aren't cancelled
      active_ones : (log : Log) → in_force_now log ≡ select active (filled_now log)
      active_ones log = in_force_filled log.N log.T log.clock log.messages

      active_valid : (log : Log) → Represents log (words s) → Messages (select active (filled_now log))
      active_valid log r = subst Messages (active_ones log) (in_force_valid log r.sound)

      counted : (log : Log) → Represents log (words s) → found ≡ length (posted log t)
      counted log r = rw (active_ones log) (counted_postings t (filled_now log) (active_valid log r) (shown log r) c)

      pub postings_no_room : length out / 8 < found → PostingsPost s t out (told_count (Err Memory)) out
      postings_no_room less = record {
        long = refl;
        not_lent = λ _. refl;
        no_term = λ _ k. absurd (omega arith);
        refused = λ _. (refl, refl);
        right = λ log r _.
            let e = counted log r in (
              sym (judged log (lt-ltb t (2 ^ term_width) (omega arith)) (lt-leb (posting_length * length (posted log t)) (length out) (omega arith))),
              λ k. absurd (omega arith),
            );
      }

      written : (log : Log) → Represents log (words s) → {out' : List ℕ} → Filled t n (window (words s) o n) out out'
          → posting_length * length (posted log t) ≤ length out → out' ≡ posted_into log t out
      written log r f = rw (active_ones log) (filled_postings t (filled_now log) (active_valid log r) (shown log r) f)

      pub postings_right : {out' : List ℕ} → found ≤ length out / 8 → Filled t n (window (words s) o n) out out'
          → PostingsPost s t out (told_count (Ok found)) out'
      postings_right {out'} fits f = record {
        long = f.keeps.long;
        not_lent = λ k. absurd (k long);
        no_term = λ _ k. absurd (omega arith);
        refused = λ k. absurd (k refl);
        right = λ log r _.
            let e = counted log r in (
              sym (judged log (lt-ltb t (2 ^ term_width) (omega arith)) (le-leb (posting_length * length (posted log t)) (length out) (omega arith))),
              λ _. (e, written log r f (omega arith)),
            );
      }
