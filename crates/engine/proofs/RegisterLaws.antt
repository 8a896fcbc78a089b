-- Registering and dropping a query: one record changes beside what a tick changes. Assumes nothing.
use Prim.Native.Nat.{ℕ, ◌+◌, ◌%◌, ◌≤◌, ◌<◌, ◌^◌}
use native.Mathlib.Nat.{mod-eq_of_lt}
use native.Mathlib.Omega.{arith}
use mathlib.Core.Path.{◌≡◌, refl, sym, ap, ap₂, ◌∙◌, subst, subst₂}
use mathlib.Core.Bool.{Bool, true, false, ◌||◌}
use mathlib.Core.Logic.{inl}
use mathlib.Core.List.{List, map}
use mathlib.Core.Option.{Option, none, some}
use lib.ListN.{length, get_or, set, length-set}
use lib.Seq.{get_or-set_same, get_or-set_other}
use lib.Dec.{eqb, ltb}
use borrow.Author.Tests.{eqb-true, eqb-false, ltb-true, ltb-false}
use Rattle.paper.specs.Frame.{Pair, Valid, numbers}
use Rattle.paper.specs.Frame.Frame.{tick, register, unregister}
use Rattle.paper.specs.Rank.{Query}
use Rattle.paper.specs.Window.{Message}
use Rattle.paper.specs.Layout.{slots, record_at, record_words, oldest_at, count_at, clock_at}
use Rattle.paper.specs.Log.{Log, query_at, in_force_now, filled_now, judge_frame, accept, departs, seen, moved_for}
use Rattle.paper.specs.Sound.{Sound, Terms}
use Rattle.paper.specs.Demand3.{reached_by, marked, bitmap}
use Rattle.paper.proofs.Tests.{or_false}
use Rattle.paper.proofs.LogLaws.{accept_sound, no_query, in_force_valid}
use Rattle.memory.specs.Keeps.{Keeps}
use Rattle.window.specs.Slot.{slot, held, window}
use Rattle.window.proofs.SlotLaws.{slot_kept, window_kept}
use Rattle.query.specs.Record.{HoldsAt, SameRecord}
use Rattle.query.specs.Post.{Registered, Cleared, Over}
use Rattle.query.proofs.RecordLaws.{thresholds_same, holds_at_same}
use Rattle.engine.specs.declared.Reply.{Reply}
use Rattle.engine.specs.Represents.{oldest_of, count_of, Represents, keeping}
use Rattle.engine.specs.Inner.{reached_in, Accepted}
use Rattle.paper.proofs.MarkLaws.{bitmap_small}
use Rattle.engine.proofs.MarkLaws.{bitmap_same, bitmap_more}
use Rattle.engine.proofs.RepresentsLaws.{in_force_shows, query_terms, reached_by_lem}

-- ---- one record changed

module _ (p : ℕ) (w w' : List ℕ) (keeps : Keeps (record_at p) (record_at p + record_words) w w') where
  -- the others are the same
  other_record : (q : ℕ) → (p ≡ q → ⊥) → SameRecord w w' q
  other_record q ne i h = go (ltb q p) refl
    where
      go : (b : Bool) → ltb q p ≡ b → get_or w' (record_at q + i) 0 ≡ get_or w (record_at q + i) 0
      go true e = let l = ltb-true q p e in keeps.below (record_at q + i) (omega arith)
      go false e = let l = ltb-false q p e in keeps.above (record_at q + i) (omega (arith, ne))

  header : (i : ℕ) → i < record_at 0 → get_or w' i 0 ≡ get_or w i 0
  header i h = keeps.below i (omega arith)

  every_slot : (j : ℕ) → j < slots → slot w' j ≡ slot w j
  every_slot j h = slot_kept keeps j h (inl (omega arith))

  -- memory holds a log that differs in that query alone
  one_record : (log log' : Log) → Represents log w → log'.N ≡ log.N → log'.T ≡ log.T → log'.clock ≡ log.clock → filled_now log' ≡ filled_now log
      → seen log' ≡ seen log → Sound log' → ((q : ℕ) → (p ≡ q → ⊥) → query_at log' q ≡ query_at log q)
      → HoldsAt w' p (oldest_of w) (count_of w) (seen log) (query_at log' p) → Represents log' w'
  one_record log log' r eN eT ec ef es sound rest new =
      let at : oldest_of w' ≡ oldest_of w = header oldest_at (omega arith) in
      let many : count_of w' ≡ count_of w = header count_at (omega arith) in
      record {
        long = keeps.long ∙ r.long;
        capacity = header 0 (omega arith) ∙ r.capacity ∙ sym eN;
        life = header 1 (omega arith) ∙ r.life ∙ sym eT;
        clock = header clock_at (omega arith) ∙ r.clock ∙ sym ec;
        capacity_most = let m = r.capacity_most in omega arith;
        oldest_below = let l = r.oldest_below in omega arith;
        count_below = let l = r.count_below in omega arith;
        shows = ap₂ (window w') at many ∙ window_kept keeps (inl (omega arith)) (oldest_of w) (count_of w) r.oldest_below ∙ r.shows ∙ ap (map held) (sym ef);
        sound = sound;
        records = λ q h.
            subst₂ (λ (a b : ℕ). HoldsAt w' q a b (seen log') (query_at log' q)) (sym at) (sym many)
            (subst (λ (ms : Query → List Message). HoldsAt w' q (oldest_of w) (count_of w) ms (query_at log' q)) (sym es) (each q h (eqb p q) refl));
      }
    where
      each : (q : ℕ) → q < numbers → (b : Bool) → eqb p q ≡ b → HoldsAt w' q (oldest_of w) (count_of w) (seen log) (query_at log' q)
      each q h true e =
          subst (λ (x : ℕ). HoldsAt w' x (oldest_of w) (count_of w) (seen log) (query_at log' x)) (eqb-true p q e) new
      each q h false e =
          subst (HoldsAt w' q (oldest_of w) (count_of w) (seen log)) (sym (rest q (eqb-false p q e)))
          (holds_at_same w w' q keeps.long (other_record q (eqb-false p q e)) (oldest_of w) (count_of w) r.oldest_below
          (λ j l i. every_slot j l) (seen log) (query_at log q)
          (λ y z. query_terms log.queries q y r.sound.queries z) (r.records q h))

-- ---- a query registered

module _ (t p k : ℕ) (ps : List Pair) (log : Log) (w w₁ w₂ : List ℕ) (r : Represents log w) (v : Valid (register t p k ps))
    (ok : judge_frame log (register t p k ps) ≡ 0)
    (free : query_at log p ≡ none) (ticked reply : Reply) (a : Accepted log (tick t) w ticked w₁) where
  abbrev new : Query
  new = record { k = k; terms = ps }

  terms : Terms new
  terms = record { k_least = v.k_least; k_most = v.k_most; terms = v.terms }

  below : p < numbers
  below = v.number

  pub registered_accepted : Registered w₁ p (oldest_of w₁) (count_of w₁) new w₂ → reply.marks ≡ (ticked.marks + 2 ^ p) % 2 ^ 32
      → reply.departures ≡ ticked.departures
      → Accepted log (register t p k ps) w reply w₂
  unfolding accept marked departs moved_for seen
  registered_accepted g em ed =
      let h = a.holds in
      let over : Over w₁ (oldest_of w₁) (count_of w₁) (in_force_now (accept log (tick t))) =
      record { shows = in_force_shows (accept log (tick t)) w₁ h; valid = in_force_valid (accept log (tick t)) h.sound } in
      let none_before : marked log (keeping w) (tick t) p ≡ false = rw free in
      let more : bitmap (λ q. eqb p q || marked log (keeping w) (tick t) q) numbers ≡ ticked.marks + 2 ^ p =
      bitmap_more (marked log (keeping w) (tick t)) p numbers below none_before ∙ ap (λ (m : ℕ). m + 2 ^ p) (sym a.marks) in
      let fits : ticked.marks + 2 ^ p < 2 ^ 32 = let s = bitmap_small (λ q. eqb p q || marked log (keeping w) (tick t) q) numbers in omega arith in
      record {
        holds =
            one_record p w₁ w₂ g.keeps (accept log (tick t)) (accept log (register t p k ps)) h refl refl refl refl refl
            (accept_sound log (register t p k ps) r.sound v ok)
            (λ q ne. get_or-set_other log.queries p q (some new) none (λ e. ne (sym e)))
            (subst (HoldsAt w₂ p (oldest_of w₁) (count_of w₁) (seen (accept log (tick t))))
            (sym (get_or-set_same log.queries p (some new) none (let l = r.sound.numbered in let b = below in omega arith)))
            (g.right (in_force_now (accept log (tick t))) over terms));
        marks = em ∙ mod-eq_of_lt fits ∙ sym more;
        departures = ed ∙ a.departures;
        untouched = λ q l e i u.
            let parts = or_false (eqb p q) (marked log (keeping w) (tick t) q) e in
            other_record p w₁ w₂ g.keeps q (eqb-false p q parts.0) i u ∙ a.untouched q l parts.1 i u;
      }

-- ---- a query dropped

module _ (t p : ℕ) (log : Log) (w w₁ w₂ : List ℕ) (r : Represents log w) (c : Cleared w p w₁) (below : p < numbers) where
  -- the log without the query, at the same clock
  abbrev without : Log
  without = record { N = log.N; T = log.T; clock = log.clock; messages = log.messages; queries = set log.queries p none }

  without_sound : Sound without
  without_sound =
      let s = r.sound in
      record {
        n_least = s.n_least;
        t_least = s.t_least;
        clock_below = s.clock_below;
        ordered = s.ordered;
        distinct = s.distinct;
        messages = s.messages;
        numbered = length-set log.queries p none ∙ s.numbered;
        queries = no_query log.queries p s.queries;
      }

  empty : query_at without p ≡ none
  empty = get_or-set_same log.queries p none none (let l = r.sound.numbered in omega arith)

  others : (q : ℕ) → (p ≡ q → ⊥) → query_at without q ≡ query_at log q
  others q ne = get_or-set_other log.queries p q none none (λ e. ne (sym e))

  pub without_held : Represents without w₁
  unfolding seen
  without_held =
      one_record p w w₁ c.keeps log without r refl refl refl refl refl without_sound others
      (subst (HoldsAt w₁ p (oldest_of w) (count_of w) (seen log)) (sym empty) c.zero)

  module _ (ticked reply : Reply) (a : Accepted without (tick t) w₁ ticked w₂) where
    -- another query is reached as it was
    same_marks : (q : ℕ) → q < numbers → marked log (keeping w) (unregister t p) q ≡ (eqb p q || marked without (keeping w₁) (tick t) q)
    unfolding marked departs moved_for
    same_marks q h = go (eqb p q) refl
      where
        gone : Query → List Message
        gone = moved_for log (tick t)

        few : (x : Option Query) → query_at log q ≡ x → (y : Query) → x ≡ some y → length y.terms ≤ 8
        few x e y z = (query_terms log.queries q y r.sound.queries (e ∙ z)).terms.at_most

        same_reach : (ne : p ≡ q → ⊥) (x : Option Query) → ((y : Query) → x ≡ some y → length y.terms ≤ 8) → reached_in w₁ q x gone ≡ reached_in w q x gone
        same_reach ne none t = refl
        same_reach ne (some x) t = rw (thresholds_same w w₁ q c.keeps.long (other_record p w w₁ c.keeps q ne) (length x.terms) (t x refl))

        go : (b : Bool) → eqb p q ≡ b → (b || reached_by (query_at log q) (keeping w q) gone) ≡ (b || reached_by (query_at without q) (keeping w₁ q) gone)
        go true e = refl
        go false e =
            let ne = eqb-false p q e in
            reached_by_lem log w q gone r h
            ∙ sym (same_reach ne (query_at log q) (few (query_at log q) refl))
            ∙ ap (λ (x : Option Query). reached_in w₁ q x gone) (sym (others q ne))
            ∙ sym (reached_by_lem without w₁ q gone without_held h)

    pub dropped_accepted : reply.marks ≡ (ticked.marks + 2 ^ p) % 2 ^ 32 → reply.departures ≡ ticked.departures → Accepted log (unregister t p) w reply w₂
    dropped_accepted em ed =
        let none_before : marked without (keeping w₁) (tick t) p ≡ false = unfold marked in rw empty in
        let more : bitmap (λ q. eqb p q || marked without (keeping w₁) (tick t) q) numbers ≡ ticked.marks + 2 ^ p =
        bitmap_more (marked without (keeping w₁) (tick t)) p numbers below none_before ∙ ap (λ (m : ℕ). m + 2 ^ p) (sym a.marks) in
        let fits : ticked.marks + 2 ^ p < 2 ^ 32 = let s = bitmap_small (λ q. eqb p q || marked without (keeping w₁) (tick t) q) numbers in omega arith in
        record {
          holds = unfold accept in a.holds;
          marks =
              em ∙ mod-eq_of_lt fits ∙ sym more
              ∙ sym (bitmap_same (marked log (keeping w) (unregister t p)) (λ q. eqb p q || marked without (keeping w₁) (tick t) q) numbers same_marks);
          departures = unfold departs in (ed ∙ a.departures);
          untouched = λ q l e i u.
              let parts = or_false (eqb p q) (marked without (keeping w₁) (tick t) q) (sym (same_marks q l) ∙ e) in
              a.untouched q l parts.1 i u ∙ other_record p w w₁ c.keeps q (eqb-false p q parts.0) i u;
        }
