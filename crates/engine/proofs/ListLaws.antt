-- A list reading: what it answers where the memory holds a log. Assumes nothing.
use Prim.Native.Nat.{ℕ, ◌<◌}
use native.Mathlib.Omega.{arith}
use mathlib.Core.Path.{◌≡◌, refl, sym, ap, ◌∙◌}
use mathlib.Core.Bool.{Bool, true, false, cond, true≢false}
use mathlib.Core.List.{List, [], map}
use mathlib.Core.Option.{Option, none, some}
use lib.ListN.{length}
use borrow.Author.Tests.{eq-eqb}
use Rattle.std.specs.Prelude.{Ok, Err}
use Rattle.paper.specs.declared.refusal.Refusal.TheVariants.{NotInUse, Memory}
use Rattle.paper.specs.Frame.{numbers}
use Rattle.paper.specs.Rank.{Query, ranking, lines}
use Rattle.paper.specs.Layout.{state_length}
use Rattle.paper.specs.Window.{Message}
use Rattle.paper.specs.Log.{Log, query_at, is_in_use, judge_list, seen, list_of}
use Rattle.paper.specs.Log as Log
use Rattle.memory.specs.Words.{words}
use Rattle.rank.specs.declared.Ranked.{Ranked}
use Rattle.rank.specs.declared.Lines.{Lines}
use Rattle.rank.specs.Listing.{keyed_of, shown, lines_of, Tidy, TidyLines, Shows}
use Rattle.query.specs.Record.{keys, HoldsAt, Holds}
use Rattle.query.specs.Post.{LoadedList}
use Rattle.engine.specs.Told.{told_list}
use Rattle.engine.specs.Represents.{Represents, oldest_of, count_of}
use Rattle.engine.specs.Inner.{registered_in}
use Rattle.engine.specs.Post.{ListPost}
use Rattle.engine.proofs.ToldLaws.{no_entry_listed, no_entry_tidy}
use Rattle.engine.proofs.RepresentsLaws.{registered_below, in_use}

-- a number that isn't in use has no list
pub unlisted : (ms : Query → List Message) (x : Option Query) → is_in_use x ≡ false → list_of ms x ≡ []
unlisted ms none e = refl
unlisted ms (some q) e = absurd (true≢false e)

module _ (s : List ℕ) (n : ℕ) where
  pub list_not_lent : (length s ≡ state_length → ⊥) → ListPost s n (told_list (Err Memory))
  list_not_lent h = record {
    not_lent = λ _. refl;
    no_number = λ l _. absurd (h l);
    most = omega arith;
    refused = λ _. (no_entry_listed, no_entry_tidy);
    right = λ log r l. absurd (h l);
  }

  module _ (long : length s ≡ state_length) where
    judged : (log : Log) {b : Bool} → is_in_use (query_at log n) ≡ b → judge_list 0 log (length s) 0 n ≡ cond b 0 10
    unfolding judge_list
    judged log e = rw (eq-eqb (length s) state_length long, e) refl

    -- what it returns is the list of the query, where there is one
    pub listed_is : (log : Log) → Log.listed 0 log (length s) 0 n ≡ list_of (seen log) (query_at log n)
    unfolding Log.listed
    listed_is log = go (query_at log n) refl
      where
        go : (x : Option Query) → query_at log n ≡ x → Log.listed 0 log (length s) 0 n ≡ list_of (seen log) x
        go none e = rw (judged log (ap is_in_use e)) refl
        go (some q) e = rw (judged log (ap is_in_use e), e) refl

    -- the record says which are in use
    module _ {b : Bool} (test : registered_in (words s) n ≡ b) where
      used_by : (log : Log) → Represents log (words s) → is_in_use (query_at log n) ≡ b
      used_by log r = in_use log (words s) n r ∙ test

      -- the log has no such query
      pub list_unused : b ≡ false → ListPost s n (told_list (Err NotInUse))
      list_unused f = record {
        not_lent = λ h. absurd (h long);
        no_number = λ _ _. refl;
        most = omega arith;
        refused = λ _. (no_entry_listed, no_entry_tidy);
        right = λ log r _.
            let absent = used_by log r ∙ f in
            (sym (judged log absent), no_entry_listed ∙ sym (listed_is log ∙ unlisted (seen log) (query_at log n) absent), no_entry_tidy);
      }

      -- the list of the record is that of the log
      held : {l : Ranked} (log : Log) (q : Query) → LoadedList (words s) n l → Holds (words s) n (oldest_of (words s)) (count_of (words s)) (seen log q) q
          → (map shown (keyed_of l) ≡ lines (ranking q (seen log q))) × Tidy l
      unfolding keys
      held log q p k =
          let c = p.count_is k.listed_most in (
            rw (c, p.serials, p.keys) k.settled.ranked,
            record { serials = rw (c, p.serials) k.no_serial; values = rw (c, p.keys) k.no_key },
          )

      pub list_right : {l : Ranked} {x : Lines} → b ≡ true → LoadedList (words s) n l → Shows l x → ListPost s n (told_list (Ok x))
      list_right {l} {x} e p shows = record {
        not_lent = λ h. absurd (h long);
        no_number = λ _ k. absurd (omega (arith, below));
        most = let c = p.count_most in omega (arith, shows.count);
        refused = λ k. absurd (k refl);
        right = λ log r _. go log (query_at log n) refl (used_by log r ∙ e) (r.records n below);
      }
        where
          below : n < numbers
          below = registered_below (words s) n (test ∙ e)

          go : (log : Log) (y : Option Query) → query_at log n ≡ y → is_in_use (query_at log n) ≡ true
              → HoldsAt (words s) n (oldest_of (words s)) (count_of (words s)) (seen log) y
              → (0 ≡ judge_list 0 log (length s) 0 n) × (lines_of x ≡ Log.listed 0 log (length s) 0 n) × TidyLines x
          go log none is u k = absurd (true≢false (sym u ∙ ap is_in_use is))
          go log (some q) is u k =
              let t = held log q p k in
              (sym (judged log u), shows.list ∙ t.0 ∙ sym (listed_is log ∙ ap (list_of (seen log)) is), shows.tidy t.1)
