-- One screen: what it answers by its lengths and lines, and where the memory holds a log. Assumes nothing.
use Prim.Native.Nat.{ℕ, ◌*◌, ◌≤◌, ◌<◌}
use native.Mathlib.Omega.{arith}
use mathlib.Core.Path.{◌≡◌, refl, sym, ap, ◌∙◌}
use mathlib.Core.Bool.{Bool, cond}
use mathlib.Core.List.{List}
use mathlib.Core.Option.{Option, none, some}
use lib.ListN.{length, get_or, drop}
use lib.Seq.{drop_at}
use lib.Dec.{leb}
use borrow.Author.Tests.{eq-eqb, ne_eqb, le-leb, lt-leb}
use Rattle.std.specs.Prelude.{Ok, Err}
use Rattle.paper.specs.declared.refusal.Refusal.{Refusal}
use Rattle.paper.specs.declared.refusal.Refusal.TheVariants.{Value, Memory}
use Rattle.paper.specs.Refusal.{number_of}
use Rattle.paper.specs.Frame.{numbers}
use Rattle.paper.specs.Rank.{Query}
use Rattle.paper.specs.Order.{In}
use Rattle.paper.specs.Layout.{state_length, listed_offset, listed_in}
use Rattle.paper.specs.Log.{Log, query_at, is_in_use, seen, list_of, listed}
use Rattle.paper.specs.Screen.{ScreenLine, screen, upward, queue_of, screen_of, most_screen_lines, screen_line_length, judge_screen, screen_in}
use Rattle.paper.proofs.ScreenLaws.{screen_most, screen_skip, upward_between}
use Rattle.memory.specs.Words.{words}
use Rattle.rank.specs.Listing as listing
use Rattle.query.specs.Record.{keys, list, HoldsAt}
use Rattle.query.proofs.RecordLaws.{map_agree}
use Rattle.screen.specs.Lines.{screen_bytes, lines_into}
use Rattle.screen.specs.Post.{queue_after, all_queues, Shared}
use Rattle.screen.proofs.LineLaws.{bytes_length, lines_length}
use Rattle.engine.specs.Told.{told_count}
use Rattle.engine.specs.Represents.{Represents, oldest_of, count_of}
use Rattle.engine.specs.Post.{ScreenPost}
use Rattle.engine.proofs.ToldLaws.{not_0}
use Rattle.engine.proofs.ListLaws.{unlisted, listed_is}

-- ---- what the memory shows

-- the list that a record keeps
record_list : (log : Log) (w : List ℕ) (n : ℕ) (x : Option Query) → HoldsAt w n (oldest_of w) (count_of w) (seen log) x → list w n ≡ list_of (seen log) x
unfolding keys listing.listed
record_list log w n none h = let e : get_or w (listed_in n) 0 ≡ 0 = h listed_offset (omega arith) in rw e refl
record_list log w n (some q) h = h.settled.ranked

module _ (s : List ℕ) (long : length s ≡ state_length) (log : Log) (r : Represents log (words s)) where
  -- the list of a number, as a reading returns it
  reading : (n : ℕ) → listed 0 log state_length 0 n ≡ list_of (seen log) (query_at log n)
  reading n = rw long at (listed_is s n long log)

  queue_is : (n : ℕ) → In n (upward 0 numbers) → queue_after (words s) 0 n ≡ queue_of log n
  queue_is n i =
      let e : list (words s) n ≡ listed 0 log state_length 0 n =
      record_list log (words s) n (query_at log n) (r.records n (upward_between n 0 numbers i).1) ∙ sym (reading n) in
      λ k. record { number = n; unplaced = e k }

  shows_screen : (B : ℕ) → screen B (all_queues (words s)) ≡ screen_of B log
  shows_screen B =
      ap (screen B) (map_agree (queue_after (words s) 0) (queue_of log) (upward 0 numbers) queue_is)
      ∙ sym (screen_skip (λ n. is_in_use (query_at log n)) (queue_of log) (λ n e. reading n ∙ unlisted (seen log) (query_at log n) e) B (upward 0 numbers))

pub share_most : {w : List ℕ} {B n : ℕ} {out out' : List ℕ} → Shared w B out n out' → n ≤ B
share_most {w} {B} h = omega (arith, h.count, screen_most B (all_queues w))

-- ---- refused

module _ (s : List ℕ) (B : ℕ) (out : List ℕ) where
  refused : (x : Refusal) → judge_screen B (length s) (length out) ≡ number_of x → ScreenPost s B out (told_count (Err x)) out
  unfolding screen_in screen_bytes
  refused x j = record {
    number = sym j;
    most = omega arith;
    long = refl;
    past = refl;
    refused = λ _. (refl, refl);
    right = λ log r. rw (j, not_0 x) (refl, refl);
  }

  pub screen_not_lent : (length s ≡ state_length → ⊥) → ScreenPost s B out (told_count (Err Memory)) out
  unfolding judge_screen
  screen_not_lent h = refused Memory (rw (ne_eqb (length s) state_length h))

  module _ (long : length s ≡ state_length) where
    judged : {b d : Bool} → leb B most_screen_lines ≡ b → leb (screen_line_length * B) (length out) ≡ d
        → judge_screen B (length s) (length out) ≡ cond b (cond d 0 12) 5
    unfolding judge_screen
    judged e f = rw (eq-eqb (length s) state_length long, e, f) refl

    pub screen_too_many : most_screen_lines < B → ScreenPost s B out (told_count (Err Value)) out
    screen_too_many h = refused Value (judged (lt-leb B most_screen_lines h) refl)

    module _ (few : B ≤ most_screen_lines) where
      pub screen_no_room : length out < screen_line_length * B → ScreenPost s B out (told_count (Err Memory)) out
      screen_no_room h = refused Memory (judged (le-leb B most_screen_lines few) (lt-leb (screen_line_length * B) (length out) h))

      -- ---- accepted

      pub screen_right : {n : ℕ} {out' : List ℕ} → screen_line_length * B ≤ length out → Shared (words s) B out n out'
          → ScreenPost s B out (told_count (Ok n)) out'
      unfolding screen_in
      screen_right {n} {out'} room h =
          let ok = judged (le-leb B most_screen_lines few) (le-leb (screen_line_length * B) (length out) room) in
          let ps : List ScreenLine = screen B (all_queues (words s)) in
          let most = share_most h in
          record {
            number = sym ok;
            most = most;
            long = ap length h.lines ∙ lines_length ps out (omega (arith, h.count));
            past =
                ap (drop (screen_line_length * n)) h.lines
                ∙ drop_at (screen_bytes ps) (drop (screen_line_length * length ps) out) (screen_line_length * n)
                (bytes_length ps ∙ ap (λ (k : ℕ). screen_line_length * k) (sym h.count))
                ∙ ap (λ (k : ℕ). drop (screen_line_length * k) out) (sym h.count);
            refused = λ k. absurd (k refl);
            right = λ log r.
                let e = shows_screen s long log r B in
                rw ok (h.count ∙ ap length e, h.lines ∙ ap (λ (l : List ScreenLine). lines_into l out) e);
          }
