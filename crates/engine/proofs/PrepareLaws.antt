-- Header and arriving message written: what the records and the window before it see of that. Assumes nothing.
use Prim.Native.Nat.{ℕ, ◌+◌, ◌-◌, ◌%◌, ◌<◌}
use native.Mathlib.Nat.{add-zero}
use native.Mathlib.Numerals.{add-one}
use native.Mathlib.Omega.{arith}
use mathlib.Core.Path.{◌≡◌, sym, ap, ◌∙◌, subst}
use mathlib.Core.Bool.{true, false≢true}
use mathlib.Core.Logic.{inr}
use mathlib.Core.List.{List, [], ◌∷◌, ◌++◌, map, append-nil}
use lib.ListN.{length}
use Rattle.paper.specs.Frame.{Form, Frame, Pair, grade_of}
use Rattle.paper.specs.Frame.Frame.{message}
use Rattle.paper.specs.Window.{Message, arrival, most_messages}
use Rattle.paper.specs.Log.{time_of, arrivals}
use Rattle.paper.specs.Layout.{slots, time_at, record_at}
use Rattle.memory.specs.Keeps.{Keeps}
use Rattle.paper.specs.Order.{In}
use Rattle.paper.proofs.SortLaws.{in_left, in_right}
use Rattle.window.specs.Slot.{Slot, slot, stored, ring, window}
use Rattle.window.specs.Cursor.{Moved, Written, PutCursor}
use Rattle.window.proofs.RingLaws.{ring_last, moved_below, moved_end, moved_parts}
use Rattle.window.proofs.SlotLaws.{slot_kept, others_kept, outside_kept}
use Rattle.candidates.specs.Flags.{in_ring}
use Rattle.candidates.proofs.MatchLaws.{in_ring_lem}
use Rattle.query.proofs.RecordLaws.{map_agree}
use Rattle.engine.proofs.ArrivingLaws.{arriving_one}
use Rattle.engine.proofs.StepLaws.{Prepared, outside}

module _ (w : List ℕ) (o n o' n' : ℕ) (low : o < slots) (few : n < slots) (moved : Moved o n o' n') where
  -- both parts of the window before are the same where its slots are
  module _ (w' : List ℕ) (same : (j : ℕ) → j < slots → in_ring o n j ≡ true → slot w' j ≡ slot w j) where
    slot_same : (j : ℕ) → In j (ring o (n - n') ++ ring o' n') → slot w' j ≡ slot w j
    slot_same j i = let r = in_ring_lem o n j low (subst (In j) (sym (moved_parts low moved)) i) in same j r.0 r.1

    gone_same : window w' o (n - n') ≡ window w o (n - n')
    gone_same = map_agree (slot w') (slot w) (ring o (n - n')) (λ j i. slot_same j (in_left j (ring o (n - n')) (ring o' n') i))

    left_same : window w' o' n' ≡ window w o' n'
    left_same = map_agree (slot w') (slot w) (ring o' n') (λ j i. slot_same j (in_right j (ring o (n - n')) (ring o' n') i))

  -- no message arrives
  pub ticked : (f : Frame) → arrivals f ≡ [] → (w' : List ℕ) → PutCursor (time_of f) o' n' w w' → Prepared f w o n o' n' slots w'
  ticked f none w' p =
      let same : (j : ℕ) → j < slots → in_ring o n j ≡ true → slot w' j ≡ slot w j = λ j h e. slot_kept p.keeps j h (inr (omega arith)) in
      let size : n' + length (arrivals f) ≡ n' = ap (λ (l : List Message). n' + length l) none ∙ add-zero n' in
      record {
        long = p.keeps.long;
        capacity = p.keeps.below 0 (omega arith);
        life = p.keeps.below 1 (omega arith);
        clock = p.clock_is;
        oldest = p.oldest_is;
        count = p.count_is ∙ sym size;
        small = let c = moved.count_most in omega (arith, size);
        records = λ q h i l. p.keeps.above (record_at q + i) (omega arith);
        slots_same = same;
        gone_same = gone_same w' same;
        left_same = left_same w' same;
        come = ap (map stored) (sym none);
        after = ap (ring o') size ∙ sym (append-nil (ring o' n'));
      }

  -- a slot of the window isn't the newest
  not_newest : (j : ℕ) → in_ring o n j ≡ true → j ≡ (o' + n') % slots → ⊥
  not_newest j e h =
      false≢true (sym (outside o n low few) ∙ ap (in_ring o n) (sym (h ∙ moved_end low moved)) ∙ e)

  -- a message arrives in the slot after the window
  pub joined : (t s : ℕ) (g : Form) (ps : List Pair) (w₁ w₂ : List ℕ) → n' < most_messages
      → Written ((o' + n') % slots) (arrival t s (grade_of g) ps) w w₁ → PutCursor t o' (n' + 1) w₁ w₂
      → Prepared (message t s g ps) w o n o' n' ((o' + n') % slots) w₂
  joined t s g ps w₁ w₂ room a p =
      let k = (o' + n') % slots in
      let small : k < slots = omega arith in
      let header : (j : ℕ) → j < slots → slot w₂ j ≡ slot w₁ j = λ j h. slot_kept p.keeps j h (inr (omega arith)) in
      let out : Keeps (time_at 0) (record_at 0) w w₁ = outside_kept a.keeps (λ i m. m) small in
      let same : (j : ℕ) → j < slots → in_ring o n j ≡ true → slot w₂ j ≡ slot w j =
      λ j h e. header j h ∙ others_kept a.keeps (λ i m. m) small j h (not_newest j e) in
      record {
        long = p.keeps.long ∙ out.long;
        capacity = p.keeps.below 0 (omega arith) ∙ out.below 0 (omega arith);
        life = p.keeps.below 1 (omega arith) ∙ out.below 1 (omega arith);
        clock = p.clock_is;
        oldest = p.oldest_is;
        count = p.count_is;
        small = omega arith;
        records = λ q h i l. p.keeps.above (record_at q + i) (omega arith) ∙ out.above (record_at q + i) (omega arith);
        slots_same = same;
        gone_same = gone_same w₂ same;
        left_same = left_same w₂ same;
        come = ap (map (slot w₂)) (arriving_one k small) ∙ ap (λ (x : Slot). x ∷ []) (header k small ∙ a.holds);
        after = ap (ring o') (add-one n') ∙ ring_last o' n' (moved_below low moved) ∙ ap (λ (js : List ℕ). ring o' n' ++ js) (sym (arriving_one k small));
      }
