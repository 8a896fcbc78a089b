-- A search: what it answers, by its lengths and bytes, and where the memory holds a log. Assumes nothing.
use Prim.Native.Nat.{ℕ, ◌≤◌}
use native.Mathlib.Omega.{arith}
use mathlib.Core.Path.{◌≡◌, refl, sym, ap, ◌∙◌}
use mathlib.Core.List.{List, map}
use lib.ListN.{length, take}
use lib.Seq.{length-take-le}
use borrow.Author.Tests.{eq-eqb, ne_eqb}
use Rattle.std.specs.Prelude.{Ok, Err}
use Rattle.paper.specs.declared.refusal.Refusal.{Refusal}
use Rattle.paper.specs.declared.refusal.Refusal.TheVariants.{Memory}
use Rattle.paper.specs.Refusal.{number_of}
use Rattle.paper.specs.Frame.Shape.{refused}
use Rattle.paper.specs.Layout.{state_length}
use Rattle.paper.specs.Log.{Log, in_force_now, seen}
use Rattle.paper.specs.Search.{asked, refusal_of, judge_search, found}
use Rattle.paper.specs.Search as Search
use Rattle.paper.proofs.LogLaws.{in_force_valid}
use Rattle.memory.specs.Words.{words}
use Rattle.rank.specs.declared.Lines.{Lines}
use Rattle.rank.specs.Listing.{shown, Shows}
use Rattle.rank.proofs.PaperLaws.{shown_keyed}
use Rattle.window.specs.Cursor.{Loaded}
use Rattle.candidates.specs.declared.query.Query.{Query}
use Rattle.query.specs.Post.{Is, Over}
use Rattle.query.proofs.QueryLaws.{is_by}
use Rattle.frame.specs.declared.Asked.{Asked}
use Rattle.frame.proofs.AskLaws.{Question}
use Rattle.search.specs.declared.Outcome.{Outcome}
use Rattle.search.specs.Post.{Fit, WindowSearch}
use Rattle.search.proofs.FoundLaws.{fit_by}
use Rattle.engine.specs.Told.{told_search}
use Rattle.engine.specs.Represents.{Represents}
use Rattle.engine.specs.Post.{SearchPost}
use Rattle.engine.proofs.ToldLaws.{not_0, no_entry_listed, no_entry_tidy}
use Rattle.engine.proofs.ReadLaws.{side_take}
use Rattle.engine.proofs.RepresentsLaws.{in_force_shows}

-- ---- refused

module _ (s bytes : List ℕ) where
  not_lent : (length s ≡ state_length → ⊥) → judge_search 0 bytes (length s) 0 ≡ 12
  unfolding judge_search
  not_lent h = rw (ne_eqb (length s) state_length h)

  judged : length s ≡ state_length → judge_search 0 bytes (length s) 0 ≡ refusal_of (asked bytes)
  unfolding judge_search
  judged long = rw (eq-eqb (length s) state_length long)

  by_number : (x : Refusal) → judge_search 0 bytes (length s) 0 ≡ number_of x → SearchPost s bytes (told_search (Err x))
  unfolding found
  by_number x e = record {
    number = sym e;
    most = omega arith;
    tidy = no_entry_tidy;
    refused = λ _. (no_entry_listed, refl);
    right = λ log r. rw (e, not_0 x) (no_entry_listed, refl);
  }

  pub search_not_lent : (length s ≡ state_length → ⊥) → SearchPost s bytes (told_search (Err Memory))
  search_not_lent h = by_number Memory (not_lent h)

  pub search_refused : (x : Refusal) → length s ≡ state_length → asked bytes ≡ refused (number_of x) → SearchPost s bytes (told_search (Err x))
  search_refused x long e = by_number x (judged long ∙ ap refusal_of e)

-- ---- answered

-- what is looked through, and what a search of it finds
module _ {bytes : List ℕ} {a : Asked} (asks : Question bytes a) (s : List ℕ) (long : length s ≡ state_length) {clock o n : ℕ}
    (l : Loaded (words s) clock o n)
  where
    over : (log : Log) → Represents log (words s) → Over (words s) o n (in_force_now log)
    over log r = record {
      shows = rw (l.oldest_is r.oldest_below, l.count_is r.count_below) (in_force_shows log (words s) r);
      valid = in_force_valid log r.sound;
    }

    found_query : (log : Log) → found 0 log bytes (length s) 0 ≡ Search.search asks.query (in_force_now log)
    unfolding found seen
    found_query log = rw (judged s bytes long, asks.free, asks.is)

-- a query that is made of what is asked for
module _ {bytes : List ℕ} {a : Asked} {q : Query} (asks : Question bytes a)
    (ek : q.k ≡ a.k) (en : q.n ≡ a.n) (et : q.terms ≡ take 8 a.terms) (eu : q.weights ≡ take 8 a.weights)
  where
    is_asked : Is q asks.query
    is_asked =
        let few : q.n ≤ 8 = omega (arith, en, asks.n, asks.valid.terms.at_most) in
        is_by asks.valid (ek ∙ asks.k) (en ∙ asks.n)
        (rw et (omega (arith, few, length-take-le 8 a.terms (omega (arith, asks.terms)))))
        (rw eu (omega (arith, few, length-take-le 8 a.weights (omega (arith, asks.weights)))))
        (rw (et, eu) (side_take q.n 8 a.terms a.weights few ∙ rw en asks.pairs))

    pub asked_fit : Fit q
    asked_fit = fit_by is_asked asks.valid

    module _ (s : List ℕ) (long : length s ≡ state_length) {clock o n : ℕ} (l : Loaded (words s) clock o n) where
      pub search_right : {x : Outcome} {shown-lines : Lines} → WindowSearch (words s) o n q x → Shows x.list shown-lines
          → SearchPost s bytes (told_search (Ok (record { list = shown-lines; read = x.read })))
      search_right {x} {shown-lines} w shows = record {
        number = sym (judged s bytes long ∙ asks.free);
        most = omega (arith, w.most, shows.count);
        tidy = shows.tidy w.tidy;
        refused = λ not_None. absurd (not_None refl);
        right = λ log r.
            let f = w.right (in_force_now log) asks.query (over asks s long l log r) r.sound.distinct asks.valid is_asked in
            rw (found_query asks s long l log) (shows.list ∙ ap (map shown) f.0 ∙ shown_keyed (Search.search asks.query (in_force_now log)).list, f.1);
      }
