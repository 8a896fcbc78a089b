-- The pass over the records: what it starts with, and what one record's turn makes of it. Assumes nothing.
use Prim.Native.Nat.{ℕ, ◌+◌, ◌<◌, ◌^◌}
use native.Mathlib.Nat.{add-zero, not-suc-le-zero}
use native.Mathlib.Omega.{arith}
use mathlib.Core.Path.{◌≡◌, refl, sym, ap, ◌∙◌, subst}
use mathlib.Core.Logic.{inl, inr}
use mathlib.Core.Bool.{Bool, true, false, cond, not, true≢false, false≢true}
use mathlib.Core.List.{List, [], ◌∷◌, ◌++◌}
use mathlib.Core.Option.{Option, none, some}
use lib.ListN.{length, get_or}
use lib.Dec.{eqb, ltb}
use borrow.Author.Count.{below_more}
use Rattle.paper.specs.Frame.{numbers}
use Rattle.paper.specs.Rank.{Query}
use Rattle.paper.specs.Window.{Message}
use Rattle.paper.specs.Sound.{Terms, Queries}
use Rattle.paper.specs.Threshold.{reached}
use Rattle.paper.specs.Layout.{slots, record_at}
use Rattle.paper.specs.Order.{In}
use Rattle.paper.specs.Demand3.{bitmap}
use Rattle.memory.specs.Keeps.{Keeps}
use Rattle.memory.proofs.KeepsLaws.{keeps_refl, keeps_trans, keeps_wider}
use Rattle.rank.specs.Listing.{has_number}
use Rattle.window.specs.Slot.{Slot, slot, ring}
use Rattle.window.proofs.SlotLaws.{slot_kept, live_in, live_same}
use Rattle.candidates.proofs.MatchLaws.{in_ring_lem}
use Rattle.query.specs.Record.{HeldAt, HoldsAt, SameRecord}
use Rattle.query.specs.Move.{Move}
use Rattle.query.specs.Post.{Change, Tables, Updated}
use Rattle.query.proofs.RecordLaws.{map_agree, record_same, thresholds_same, held_at_same, holds_at_same, in_use_is}
use Rattle.engine.specs.Inner.{reached_in, Passed}
use Rattle.engine.proofs.MarkLaws.{bitmap_next, marks_below}
use Rattle.engine.proofs.RepresentsLaws.{query_terms}

-- ---- what the records don't change

module _ {e : ℕ} {w v : List ℕ} (kept : Keeps (record_at 0) e w v) where
  every_slot : (j : ℕ) → j < slots → slot v j ≡ slot w j
  every_slot j h = slot_kept kept j h (inl (omega arith))

  in_window : (o n : ℕ) → o < slots → (j : ℕ) → In j (ring o n) → slot v j ≡ slot w j
  in_window o n h j m = every_slot j (in_ring_lem o n j h m).0

  change_kept : {w₀ : List ℕ} {o c : ℕ} {m : Move} {aa ga sa ca : List Message} → m.gone < slots → Change w₀ w o c m aa ga sa ca → Change w₀ v o c m aa ga sa ca
  change_kept {m = m} {ga = ga} low c = record {
    first_below = c.first_below;
    then_below = c.then_below;
    stay_slots = c.stay_slots;
    before = c.before;
    after = live_same w v (ring m.first m.count) (in_window m.first m.count c.then_below) ∙ c.after;
    same = λ j i.
        every_slot j (in_ring_lem m.first m.count j c.then_below (live_in w (ring m.first m.count) j (subst (In j) (sym c.after) i)).0).0
        ∙ c.same j i;
    apart = c.apart;
    split = c.split;
    gone = c.gone;
    stay = c.stay;
    come = c.come;
    serials = λ s h.
        ap (λ (ss : List ℕ). has_number s (ss ++ cond (ltb m.cancelled slots) (m.serial ∷ []) []))
        (map_agree (λ j. (slot v j).serial) (λ j. (slot w j).serial) (ring m.gone m.departed)
        (λ j i. ap (λ (x : Slot). x.serial) (in_window m.gone m.departed low j i)))
        ∙ c.serials s h;
    distinct = c.distinct;
    valid = c.valid;
    valid_new = c.valid_new;
  }

-- ---- the pass

pub passed_none : (w : List ℕ) {m : Move} {coming going : List ℕ} → Passed 0 w m coming going 0 w
unfolding bitmap
passed_none w = record {
  keeps = keeps_refl (record_at 0) (record_at 0) w;
  small = omega arith;
  right = λ w₀ o c aa ga sa ca qs tables change valid holds. (λ q l. absurd (not-suc-le-zero l), refl, λ q l. absurd (not-suc-le-zero l));
}

-- what one turn has to say of its record: `r` is whether the query is reached, and what is kept of it is right after the change
abbrev Turned : List ℕ → ℕ → Move → List ℕ → List ℕ → Bool → List ℕ → Type 0
Turned v q m coming going r v' =
    (w₀ : List ℕ) (o c : ℕ) (aa ga sa ca : List Message) (x : Option Query) → ((y : Query) → x ≡ some y → Terms y)
    → Tables w₀ m coming going → Change w₀ v o c m aa ga sa ca → HeldAt w₀ v q o c (λ _. aa) x
    → (r ≡ reached_in v q x (λ _. ga ++ ca)) × HoldsAt v' q m.first m.count (λ _. sa ++ ca) x

module _ (q : ℕ) (w v : List ℕ) {m : Move} {coming going : List ℕ} {marks : ℕ} (below : q < numbers) (low : m.gone < slots)
    (passed : Passed q w m coming going marks v) where
  record_stands : SameRecord w v q
  record_stands = record_same passed.keeps q (inr (omega arith))

  reached_same : (x : Option Query) (ms : Query → List Message) → ((y : Query) → x ≡ some y → Terms y) → reached_in v q x ms ≡ reached_in w q x ms
  reached_same none ms t = refl
  reached_same (some y) ms t =
      ap (λ (hs : List ℕ). reached y.terms hs (ms y))
      (thresholds_same w v q passed.keeps.long record_stands (length y.terms) (t y refl).terms.at_most)

  -- one turn writes its own record only, and nothing where the record isn't reached
  module _ (v' : List ℕ) (r : Bool) (here : Keeps (record_at q) (record_at (q + 1)) v v') (same : r ≡ false → v' ≡ v)
      (one : Turned v q m coming going r v') where
    module _ (w₀ : List ℕ) (o c : ℕ) (aa ga sa ca : List Message) (qs : List (Option Query)) (tables : Tables w₀ m coming going)
        (change : Change w₀ w o c m aa ga sa ca)
        (valid : Queries qs) (holds : (p : ℕ) → p < numbers → HeldAt w₀ w p o c (λ _. aa) (get_or qs p none)) where
      before : ((p : ℕ) → p < q → HoldsAt v p m.first m.count (λ _. sa ++ ca) (get_or qs p none))
          × (marks ≡ bitmap (λ p. reached_in w p (get_or qs p none) (λ _. ga ++ ca)) q)
          × ((p : ℕ) → p < q → reached_in w p (get_or qs p none) (λ _. ga ++ ca) ≡ false → SameRecord w v p)
      before = passed.right w₀ o c aa ga sa ca qs tables change valid holds

      terms : (p : ℕ) (y : Query) → get_or qs p none ≡ some y → Terms y
      terms p y e = query_terms qs p y valid e

      -- the record stands as it did before the pass
      now : (r ≡ reached_in w q (get_or qs q none) (λ _. ga ++ ca)) × HoldsAt v' q m.first m.count (λ _. sa ++ ca) (get_or qs q none)
      now =
          let held = held_at_same w v q passed.keeps.long record_stands w₀ o c (λ _. aa) (get_or qs q none) (terms q) (holds q below) in
          let t = one w₀ o c aa ga sa ca (get_or qs q none) (terms q) tables (change_kept passed.keeps low change) held in
          (t.0 ∙ reached_same (get_or qs q none) (λ _. ga ++ ca) (terms q), t.1)

      -- the records before it stay
      stay : (p : ℕ) → p < q → HoldsAt v' p m.first m.count (λ _. sa ++ ca) (get_or qs p none)
      stay p l =
          holds_at_same v v' p here.long (record_same here p (inl (omega arith))) m.first m.count change.then_below
          (λ j k _. slot_kept here j k (inl (omega arith))) (λ _. sa ++ ca) (get_or qs p none) (terms p) (before.0 p l)

      untouched : (p : ℕ) → p < q → reached_in w p (get_or qs p none) (λ _. ga ++ ca) ≡ false → SameRecord w v' p
      untouched p l u i k = here.below (record_at p + i) (omega arith) ∙ before.2 p l u i k

      unreached : reached_in w q (get_or qs q none) (λ _. ga ++ ca) ≡ false → SameRecord w v' q
      unreached u i k = ap (λ (x : List ℕ). get_or x (record_at q + i) 0) (same (now.0 ∙ u)) ∙ passed.keeps.above (record_at q + i) (omega arith)

      all : ((p : ℕ) → p < q + 1 → HoldsAt v' p m.first m.count (λ _. sa ++ ca) (get_or qs p none))
          × (marks + cond r (2 ^ q) 0 ≡ bitmap (λ p. reached_in w p (get_or qs p none) (λ _. ga ++ ca)) (q + 1))
          × ((p : ℕ) → p < q + 1 → reached_in w p (get_or qs p none) (λ _. ga ++ ca) ≡ false → SameRecord w v' p)
      all = (
        below_more (λ p. HoldsAt v' p m.first m.count (λ _. sa ++ ca) (get_or qs p none)) q stay now.1,
        bitmap_next (λ p. reached_in w p (get_or qs p none) (λ _. ga ++ ca)) q now.0 before.1,
        below_more (λ p. reached_in w p (get_or qs p none) (λ _. ga ++ ca) ≡ false → SameRecord w v' p) q untouched unreached,
      )

    turn : Passed (q + 1) w m coming going (marks + cond r (2 ^ q) 0) v'
    turn = record {
      keeps = keeps_trans (keeps_wider (omega arith) (omega arith) passed.keeps) (keeps_wider (omega arith) (omega arith) here);
      small = marks_below q r passed.small;
      right = all;
    }

  module _ {b : Bool} (test : b ≡ not (eqb (get_or v (record_at q) 0) 0)) where
    -- no query is registered at the number
    pub turn_unused : b ≡ false → {v' : List ℕ} {marks' : ℕ} → v' ≡ v → marks' ≡ marks → Passed (q + 1) w m coming going marks' v'
    turn_unused e same more = rw (same, more, ← add-zero marks) (turn v false (keeps_refl (record_at q) (record_at (q + 1)) v) (λ _. refl) one)
      where
        one : Turned v q m coming going false v
        one w₀ o c aa ga sa ca none t tables change h = (refl, h)
        one w₀ o c aa ga sa ca (some y) t tables change h = absurd (true≢false (sym (in_use_is w₀ v q o c (λ _. aa) (some y) t h) ∙ sym test ∙ e))

    -- the query that is registered is updated
    module _ (e : b ≡ true) {u : List ℕ} {r : Bool} (updated : Updated v q m coming going r u) where
      turn_used : Passed (q + 1) w m coming going (marks + cond r (2 ^ q) 0) u
      turn_used = turn u r (keeps_wider (omega arith) (omega arith) updated.keeps) updated.untouched one
        where
          one : Turned v q m coming going r u
          one w₀ o c aa ga sa ca none t tables change h = absurd (false≢true (sym (in_use_is w₀ v q o c (λ _. aa) none t h) ∙ sym test ∙ e))
          one w₀ o c aa ga sa ca (some y) t tables change h = updated.right w₀ o c aa ga sa ca y tables change (t y refl) h

      pub turn_unreached : r ≡ false → {v' : List ℕ} {marks' : ℕ} → v' ≡ u → marks' ≡ marks → Passed (q + 1) w m coming going marks' v'
      turn_unreached k same more = rw (same, more) (rw (k, add-zero) at turn_used)

      pub turn_reached : r ≡ true → {v' : List ℕ} {marks' : ℕ} → v' ≡ u → marks' ≡ marks + 2 ^ q → Passed (q + 1) w m coming going marks' v'
      turn_reached k same more = rw (same, more) (rw k at turn_used)
