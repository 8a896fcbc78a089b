-- What memory that holds a log keeps of each query. Assumes nothing.
use Prim.Native.Nat.{ℕ, zero, suc, ◌<◌}
use native.Mathlib.Omega.{arith}
use mathlib.Core.Path.{◌≡◌, refl, sym, ap, ◌∙◌, subst}
use mathlib.Core.Bool.{Bool, true, not}
use mathlib.Core.List.{List, [], ◌∷◌, map}
use mathlib.Core.Option.{Option, none, some}
use lib.ListN.{length, get_or, get_or-eq_default}
use lib.Dec.{eqb, ltb}
use borrow.Author.Tests.{not-true, not-false, ltb-true, ltb-false}
use Rattle.paper.specs.Frame.{numbers}
use Rattle.paper.specs.Rank.{Query}
use Rattle.paper.specs.Window.{Message}
use Rattle.paper.specs.Layout.{record_at}
use Rattle.paper.specs.Log.{Log, query_at, is_in_use, in_force_now, filled_now, seen}
use Rattle.paper.specs.Sound.{Terms, Queries}
use Rattle.paper.specs.Demand3.{SettledAt, AllSettled, reached_by}
use Rattle.paper.proofs.Tests.{by_bool, and_true}
use Rattle.paper.proofs.LogLaws.{filled_valid}
use Rattle.paper.proofs.WindowLaws.{in_force_filled}
use Rattle.window.specs.Slot.{slot, stored, ring, live}
use Rattle.window.proofs.LogLaws.{live_shows}
use Rattle.query.specs.Record.{kept_of, Holds, HoldsAt}
use Rattle.query.proofs.RecordLaws.{in_use_is}
use Rattle.engine.specs.Represents.{oldest_of, count_of, Represents, keeping}
use Rattle.engine.specs.Inner.{reached_in, registered_in}

-- the slots in force hold the messages in force
pub in_force_shows : (log : Log) (w : List ℕ) → Represents log w → map (slot w) (live w (ring (oldest_of w) (count_of w))) ≡ map stored (in_force_now log)
in_force_shows log w r =
    live_shows w (ring (oldest_of w) (count_of w)) (filled_now log) (filled_valid log log.clock r.sound) r.shows
    ∙ ap (map stored) (sym (in_force_filled log.N log.T log.clock log.messages))

-- a valid query at a number, of those that a log has
pub query_terms : (qs : List (Option Query)) (n : ℕ) (q : Query) → Queries qs → get_or qs n none ≡ some q → Terms q
query_terms [] n q v e = let z : ◌≡◌ {A = ℕ} 0 1 = cc in absurd (omega arith)
query_terms (none ∷ qs) zero q v e = let z : ◌≡◌ {A = ℕ} 0 1 = cc in absurd (omega arith)
query_terms (some x ∷ qs) zero q v e = let s : x ≡ q = cc in subst Terms s v.0
query_terms (none ∷ qs) (suc n) q v e = query_terms qs n q v e
query_terms (some x ∷ qs) (suc n) q v e = query_terms qs n q v.1 e

module _ (w : List ℕ) (q : ℕ) (ms : Query → List Message) where
  -- whether the record is in use is whether it starts with 0
  first_is : (x : Option Query) → ((y : Query) → x ≡ some y → Terms y) → HoldsAt w q (oldest_of w) (count_of w) ms x
      → not (eqb (get_or w (record_at q) 0) 0) ≡ is_in_use x
  first_is = in_use_is w w q (oldest_of w) (count_of w) ms

  pub kept_none : HoldsAt w q (oldest_of w) (count_of w) ms none → keeping w q ≡ none
  unfolding keeping
  kept_none h = rw (not-false (eqb (get_or w (record_at q) 0) 0) (first_is none (λ y e. let z : ◌≡◌ {A = ℕ} 0 1 = cc in absurd (omega arith)) h))

  pub kept_some : (x : Query) → Terms x → Holds w q (oldest_of w) (count_of w) (ms x) x
      → keeping w q ≡ some (kept_of w q (oldest_of w) (count_of w) (length x.terms))
  unfolding keeping
  kept_some x t h =
      rw (not-true (eqb (get_or w (record_at q) 0) 0) (first_is (some x) (λ y e. let s : x ≡ y = cc in subst Terms s t) h), h.says.size)

  settled_at : (x : Option Query) → ((y : Query) → x ≡ some y → Terms y) → HoldsAt w q (oldest_of w) (count_of w) ms x → SettledAt x ms (keeping w q)
  settled_at none t h = rw (kept_none h) tt
  settled_at (some x) t h = rw (kept_some x (t x refl) h) h.settled

  -- reached by the thresholds that are kept
  reached_at : (x : Option Query) (moved : Query → List Message) → ((y : Query) → x ≡ some y → Terms y) → HoldsAt w q (oldest_of w) (count_of w) ms x
      → reached_by x (keeping w q) moved ≡ reached_in w q x moved
  reached_at none moved t h = refl
  reached_at (some x) moved t h = rw (kept_some x (t x refl) h)

-- memory that holds a log keeps each query as demanded
pub all_settled : (log : Log) (w : List ℕ) → Represents log w → AllSettled log (keeping w)
all_settled log w r q h =
    settled_at w q (seen log) (query_at log q) (λ y e. query_terms log.queries q y r.sound.queries e) (r.records q h)

pub reached_by_lem : (log : Log) (w : List ℕ) (q : ℕ) (moved : Query → List Message) → Represents log w → q < numbers
    → reached_by (query_at log q) (keeping w q) moved ≡ reached_in w q (query_at log q) moved
reached_by_lem log w q moved r h =
    reached_at w q (seen log) (query_at log q) moved (λ y e. query_terms log.queries q y r.sound.queries e) (r.records q h)

-- a number is in use as its record says
pub used : (log : Log) (w : List ℕ) (q : ℕ) {b : Bool} → Represents log w → q < numbers → b ≡ not (eqb (get_or w (record_at q) 0) 0)
    → is_in_use (query_at log q) ≡ b
used log w q r h test =
    sym (first_is w q (seen log) (query_at log q) (λ y e. query_terms log.queries q y r.sound.queries e) (r.records q h)) ∙ sym test

-- none above the last is registered
pub registered_below : (w : List ℕ) (n : ℕ) → registered_in w n ≡ true → n < numbers
registered_below w n e = ltb-true n numbers (and_true (ltb n numbers) (not (eqb (get_or w (record_at n) 0) 0)) e).0

-- so any number is in use as its record says, if it has one
pub in_use : (log : Log) (w : List ℕ) (n : ℕ) → Represents log w → is_in_use (query_at log n) ≡ registered_in w n
in_use log w n r =
    by_bool (ltb n numbers) (λ e. rw e (used log w n r (ltb-true n numbers e) refl))
    (λ e.
    let k = ltb-false n numbers e in
    let l = r.sound.numbered in
    rw e (ap is_in_use (get_or-eq_default log.queries none {n = n} (omega arith))))
