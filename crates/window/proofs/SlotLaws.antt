-- Laws of slots: what a slot and a window read of the memory, and a message written into a slot. Assumes nothing.
use Prim.Native.Nat.{ℕ, zero, suc, ◌+◌, ◌*◌, ◌/◌, ◌%◌, ◌^◌, ◌≤◌, ◌<◌}
use native.Mathlib.Nat.{not-suc-le-zero, min-le_left, min-le_right, min-eq_left}
use native.Mathlib.Omega.{arith}
use mathlib.Core.Path.{◌≡◌, refl, sym, ap, ap₂, ◌∙◌}
use mathlib.Core.Bool.{true, false}
use mathlib.Core.Logic.{◌⊎◌, inl, inr, ⊎_elim}
use mathlib.Core.List.{List, [], ◌∷◌, ◌++◌, map}
use lib.ListN.{length, get_or, set, take, drop, length-set, length-take, length-drop}
use lib.Seq.{get_or-take, get_or-drop, get_or-set_other}
use lib.Dec.{ltb}
use borrow.Author.Tests.{ltb-false}
use Rattle.std.proofs.lemmas.Grind.{common_steps}
use Rattle.paper.specs.Frame.{level, most_pairs}
use Rattle.paper.specs.Impact.{impact, squares}
use Rattle.paper.specs.Order.{In}
use Rattle.paper.specs.Sort.{select}
use Rattle.paper.specs.Window.{Message}
use Rattle.paper.specs.Write.{side_by_side}
use Rattle.paper.specs.Layout.{slots, cell_limit, time_at, serial_at, cell_count_at, cells_at, record_at, state_length, state_words}
use Rattle.paper.proofs.FrameLaws.{level_most}
use Rattle.paper.proofs.SortLaws.{in_select, select_in, select_map, select_append}
use Rattle.memory.specs.Words.{words, put_word}
use Rattle.memory.specs.Keeps.{Keeps, Stored}
use Rattle.memory.proofs.WordLaws.{words_length, put_word_lem, put_length}
use Rattle.memory.proofs.KeepsLaws.{keeps_at, same_part}
use Rattle.impact.specs.Cell.{packed, cell_of, cells_of, squares_of}
use Rattle.impact.proofs.CellLaws.{squares_side}
use Rattle.window.specs.Slot.{Slot, InSlot, slot, size_at, grade_in, stored, silenced, ring, window, live}
use Rattle.window.specs.Cursor.{KeepsBut, Written, Cancelled}
use Rattle.window.proofs.RingLaws.{ring_length, ring_below}

-- ---- the cells of a slot

module _ (w : List ℕ) (j : ℕ) where
  pub slot_size : length w ≡ state_words → j < slots → size_at w j ≡ length (slot w j).cells
  unfolding slot
  slot_size long below = simp (length-take, length-drop) (omega (arith, min-le_right (get_or w (cell_count_at j) 0 % cell_limit) most_pairs))

  pub slot_few : length (slot w j).cells ≤ most_pairs
  unfolding slot
  slot_few = simp length-take (omega arith)

  pub slot_cell : (i : ℕ) → i < length (slot w j).cells → get_or w (cells_at j + i) 0 ≡ get_or (slot w j).cells i 0
  unfolding slot
  slot_cell i h = let below : i < size_at w j = omega (arith, simp length-take at h) in rw (get_or-take, get_or-drop)

-- ---- slots that aren't live

pub silent_cells : (w : List ℕ) (j : ℕ) → ltb 0 (slot w j).size ≡ false → (slot w j).cells ≡ []
unfolding slot
silent_cells w j e =
    let size : ℕ = get_or w (cell_count_at j) 0 % cell_limit in
    let none : size_at w j ≡ 0 = omega (arith, ltb-false 0 size e, min-le_left size most_pairs) in
    ap (λ (n : ℕ). take n (drop (cells_at j) w)) none

-- which of some slots are live, and what is in them
pub live_in : (w js : List ℕ) (j : ℕ) → In j (live w js) → In j js × (ltb 0 (slot w j).size ≡ true)
unfolding live
live_in w js j m = select_in (λ j. ltb 0 (slot w j).size) j js m

pub in_live : (w js : List ℕ) (j : ℕ) → In j js → ltb 0 (slot w j).size ≡ true → In j (live w js)
unfolding live
in_live w js j m e = in_select (λ j. ltb 0 (slot w j).size) j js m e

pub live_append : (w xs ys : List ℕ) → live w (xs ++ ys) ≡ live w xs ++ live w ys
unfolding live
live_append w xs ys = select_append (λ j. ltb 0 (slot w j).size) xs ys

pub live_same : (w w' js : List ℕ) → ((j : ℕ) → In j js → slot w' j ≡ slot w j) → live w' js ≡ live w js
unfolding live select
live_same w w' [] same = refl
live_same w w' (j ∷ js) same = rw (same j (inl refl), live_same w w' js (λ i m. same i (inr m)))

pub live_slots : (w js : List ℕ) → map (slot w) (live w js) ≡ select (λ x. ltb 0 x.size) (map (slot w) js)
unfolding live
live_slots w js = sym (select_map (slot w) (λ (x : Slot). ltb 0 x.size) js)

-- ---- what a slot and a window read

-- a slot reads its own words only
slot_same : (w w' : List ℕ) (j : ℕ) → length w' ≡ length w → ((i : ℕ) → InSlot j i → get_or w' i 0 ≡ get_or w i 0) → slot w' j ≡ slot w j
unfolding slot
slot_same w w' j long same =
    let most : size_at w j ≤ most_pairs = min-le_right (get_or w (cell_count_at j) 0 % cell_limit) most_pairs in
    rw (
      same (time_at j) (inl refl),
      same (serial_at j) (inr (inl refl)),
      same (cell_count_at j) (inr (inr (inl refl))),
      same_part w' w (cells_at j) (size_at w j) (simp (length-take, length-drop) (omega arith)) (λ i l h. same i (inr (inr (inr (l, omega arith))))),
    )

-- the slots' words lie in the ring
in_ring_words : (j i : ℕ) → j < slots → InSlot j i → (time_at 0 ≤ i) × (i < record_at 0)
in_ring_words j i h own = grind arith

-- and no two slots share one: they are of one column, or of two
words_apart : (j k i : ℕ) → j < slots → k < slots → (j ≡ k → ⊥) → InSlot j i → InSlot k i → ⊥
words_apart j k i hj hk ne a b = grind arith

-- what is written before or after the ring changes no slot
pub slot_kept : {a e : ℕ} {w w' : List ℕ} → Keeps a e w w' → (j : ℕ) → j < slots → (record_at 0 ≤ a) ⊎ (e ≤ time_at 0) → slot w' j ≡ slot w j
slot_kept {w = w} {w'} kept j h d =
    slot_same w w' j kept.long
    (λ i own. let b = in_ring_words j i h own in keeps_at kept i (⊎_elim (λ l. inl (omega arith)) (λ l. inr (omega arith)) d))

-- where only words of slot j are changed, the other slots are as they were, and so is all outside the ring
module _ {Changed : ℕ → Type 0} {w w' : List ℕ} {j : ℕ} (kept : KeepsBut Changed w w') (own : (i : ℕ) → Changed i → InSlot j i) (low : j < slots) where
  pub others_kept : (k : ℕ) → k < slots → (k ≡ j → ⊥) → slot w' k ≡ slot w k
  others_kept k h ne = slot_same w w' k kept.long (λ i m. kept.rest i (λ c. words_apart k j i h low ne m (own i c)))

  pub outside_kept : Keeps (time_at 0) (record_at 0) w w'
  outside_kept =
      record {
        long = kept.long;
        below = λ i h. kept.rest i (λ c. let b = in_ring_words j i low (own i c) in omega arith);
        above = λ i h. kept.rest i (λ c. let b = in_ring_words j i low (own i c) in omega arith);
      }

-- what a cancellation changes is of its slot
pub cancelled_own : (j i : ℕ) → (i ≡ serial_at j) ⊎ (i ≡ cell_count_at j) → InSlot j i
cancelled_own j i (inl e) = inr (inl e)
cancelled_own j i (inr e) = inr (inr (inl e))

-- a window reads its own slots only
slots_agree : (w w' js : List ℕ) → ((i : ℕ) → i < length js → slot w' (get_or js i 0) ≡ slot w (get_or js i 0)) → map (slot w') js ≡ map (slot w) js
slots_agree w w' [] same = refl
slots_agree w w' (j ∷ js) same = ap₂ ◌∷◌ (same 0 (omega arith)) (slots_agree w w' js (λ i h. same (suc i) (omega arith)))

window_agree : (w w' : List ℕ) (o n : ℕ) → ((i : ℕ) → i < n → slot w' (get_or (ring o n) i 0) ≡ slot w (get_or (ring o n) i 0)) → window w' o n ≡ window w o n
window_agree w w' o n same = slots_agree w w' (ring o n) (λ i h. same i (let l = ring_length o n in omega arith))

-- what is written before or after the ring doesn't change a window
pub window_kept : {a e : ℕ} {w w' : List ℕ} → Keeps a e w w' → (record_at 0 ≤ a) ⊎ (e ≤ time_at 0) → (o n : ℕ) → o < slots → window w' o n ≡ window w o n
window_kept {a} {e} {w} {w'} kept d o n low =
    window_agree w w' o n
    (λ i h. slot_kept kept (get_or (ring o n) i 0) (ring_below o n i low h) d)

-- ---- a message written

-- the cells of pairs that stand side by side in two lists
cells_in : (n m : ℕ) (ts fs : List ℕ) → m ≤ length ts → m ≤ length fs
    → (length (map (cell_of n) (side_by_side m ts fs)) ≡ m)
    × ((i : ℕ) → i < m → get_or (map (cell_of n) (side_by_side m ts fs)) i 0 ≡ packed (get_or ts i 0) (get_or fs i 0) (impact (get_or fs i 0) n))
unfolding side_by_side
cells_in n zero ts fs ht hf = (refl, λ i h. absurd (not-suc-le-zero h))
cells_in n (suc m) [] fs ht hf = absurd (not-suc-le-zero ht)
cells_in n (suc m) (t ∷ ts) [] ht hf = absurd (not-suc-le-zero hf)
cells_in n (suc m) (t ∷ ts) (f ∷ fs) ht hf = let r = cells_in n m ts fs (omega arith) (omega arith) in (ap suc r.0, at r.1)
  where
    at : ((i : ℕ) → i < m → get_or (map (cell_of n) (side_by_side m ts fs)) i 0 ≡ packed (get_or ts i 0) (get_or fs i 0) (impact (get_or fs i 0) n))
        → (i : ℕ) → i < suc m
        → get_or (map (cell_of n) (side_by_side (suc m) (t ∷ ts) (f ∷ fs))) i 0
        ≡ packed (get_or (t ∷ ts) i 0) (get_or (f ∷ fs) i 0) (impact (get_or (f ∷ fs) i 0) n)
    at r zero h = refl
    at r (suc i) h = r i (omega arith)

module _ (m : ℕ) (ts fs : List ℕ) (ht : m ≤ length ts) (hf : m ≤ length fs) where
  pub cells_length : length (cells_of (side_by_side m ts fs)) ≡ m
  unfolding cells_of
  cells_length = (cells_in (squares (side_by_side m ts fs)) m ts fs ht hf).0

  pub cell_at : (i : ℕ) → i < m
      → get_or (cells_of (side_by_side m ts fs)) i 0 ≡ packed (get_or ts i 0) (get_or fs i 0) (impact (get_or fs i 0) (squares_of m fs))
  unfolding cells_of
  cell_at i h =
      (cells_in (squares (side_by_side m ts fs)) m ts fs ht hf).1 i h
      ∙ ap (λ (n : ℕ). packed (get_or ts i 0) (get_or fs i 0) (impact (get_or fs i 0) n)) (squares_side m ts fs ht)

-- in words: time, serial and the number of cells with the urgency above it, then the cells
slot_written : (j : ℕ) (x : Message) (m v : ℕ) (w w' : List ℕ) → j < slots → length w ≡ state_words → m ≤ most_pairs → length x.pairs ≡ m
    → v ≡ m + cell_limit * level x.urgency
    → Stored (cells_at j) m (cells_of x.pairs) (set (set (set w (time_at j) x.time) (serial_at j) x.serial) (cell_count_at j) v) w'
    → Written j x w w'
unfolding slot stored
slot_written j x m v w w' low long few all is cells = record {
  keeps = record { long = cells.keeps.long ∙ long₃; rest = rest };
  holds = rw (time_is, serial_is, word_is, urgency_is, size_is, min-eq_left few, cells.reads, all);
}
  where
    w₁ : List ℕ
    w₁ = set w (time_at j) x.time

    w₂ : List ℕ
    w₂ = set w₁ (serial_at j) x.serial

    w₃ : List ℕ
    w₃ = set w₂ (cell_count_at j) v

    long₃ : length w₃ ≡ length w
    long₃ = length-set w₂ (cell_count_at j) v ∙ length-set w₁ (serial_at j) x.serial ∙ length-set w (time_at j) x.time

    rest : (i : ℕ) → (InSlot j i → ⊥) → get_or w' i 0 ≡ get_or w i 0
    rest i out =
        let side : (i < cells_at j) ⊎ (cells_at j + m ≤ i) = grind arith in
        keeps_at cells.keeps i side
        ∙ get_or-set_other w₂ (cell_count_at j) i v 0 (λ e. out (inr (inr (inl e))))
        ∙ get_or-set_other w₁ (serial_at j) i x.serial 0 (λ e. out (inr (inl e)))
        ∙ get_or-set_other w (time_at j) i x.time 0 (λ e. out (inl e))

    before : (i : ℕ) → i < cells_at j → get_or w' i 0 ≡ get_or w₃ i 0
    before i h = cells.keeps.below i h

    time_is : get_or w' (time_at j) 0 ≡ x.time
    time_is = before (time_at j) (omega arith) ∙ grind (arith, common_steps)

    serial_is : get_or w' (serial_at j) 0 ≡ x.serial
    serial_is = before (serial_at j) (omega arith) ∙ grind (arith, common_steps)

    word_is : get_or w' (cell_count_at j) 0 ≡ v
    word_is = before (cell_count_at j) (omega arith) ∙ grind (arith, common_steps)

    urgency_is : v / cell_limit ≡ level x.urgency
    urgency_is = omega arith

    size_is : v % cell_limit ≡ m
    size_is = omega arith

-- as the words are put one after the other
pub message_written : (j : ℕ) (x : Message) (m : ℕ) (s₀ s₁ s₂ s₃ : List ℕ) {v : ℕ} {w' : List ℕ} → length s₀ ≡ state_length → j < slots → m ≤ most_pairs
    → length x.pairs ≡ m → v ≡ m + cell_limit * level x.urgency → x.time < 2 ^ 32 → x.serial < 2 ^ 32 → s₁ ≡ put_word s₀ (time_at j) x.time
    → s₂ ≡ put_word s₁ (serial_at j) x.serial → s₃ ≡ put_word s₂ (cell_count_at j) v
    → Stored (cells_at j) m (cells_of x.pairs) (words s₃) w' → Written j x (words s₀) w'
message_written j x m s₀ s₁ s₂ s₃ {v} {w'} long low few all is ht hs e₁ e₂ e₃ cells =
    let l₁ : length s₁ ≡ length s₀ = ap length e₁ ∙ put_length s₀ (time_at j) x.time in
    let l₂ : length s₂ ≡ length s₁ = ap length e₂ ∙ put_length s₁ (serial_at j) x.serial in
    let l = words_length s₀ in
    slot_written j x m v (words s₀) w' low (omega arith) few all is
    (rw (
      e₃,
      put_word_lem s₂ (cell_count_at j) v (omega arith) (omega (arith, level_most x.urgency)),
      e₂,
      put_word_lem s₁ (serial_at j) x.serial (omega arith) hs,
      e₁,
      put_word_lem s₀ (time_at j) x.time (omega arith) ht,
    ) at cells)

-- ---- a message cancelled

-- in words: the serial, then no cells with the urgency above them
slot_silenced : (j x v : ℕ) (w : List ℕ) → j < slots → length w ≡ state_words → x ≡ (slot w j).serial % 1048576 + 1048576 * size_at w j
    → v ≡ cell_limit * grade_in (slot w j) → Cancelled j w (set (set w (serial_at j) x) (cell_count_at j) v)
unfolding slot silenced
slot_silenced j x v w low long is kept = record {
  keeps = record {
    long = length-set w₁ (cell_count_at j) v ∙ length-set w (serial_at j) x;
    rest = λ i out.
        get_or-set_other w₁ (cell_count_at j) i v 0 (λ e. out (inr e)) ∙ get_or-set_other w (serial_at j) i x 0 (λ e. out (inl e));
  };
  silent = rw (time_is, serial_is, word_is, urgency_is, size_is, is);
}
  where
    w₁ : List ℕ
    w₁ = set w (serial_at j) x

    time_is : get_or (set w₁ (cell_count_at j) v) (time_at j) 0 ≡ get_or w (time_at j) 0
    time_is = grind (arith, common_steps)

    serial_is : get_or (set w₁ (cell_count_at j) v) (serial_at j) 0 ≡ x
    serial_is = grind (arith, common_steps)

    word_is : get_or (set w₁ (cell_count_at j) v) (cell_count_at j) 0 ≡ v
    word_is = grind (arith, common_steps)

    urgency_is : v / cell_limit ≡ grade_in (slot w j)
    urgency_is = omega arith

    size_is : v % cell_limit ≡ 0
    size_is = omega arith

-- as the words are put one after the other
pub slot_cancelled : (j : ℕ) (s₀ s₁ s₂ : List ℕ) {x v : ℕ} → length s₀ ≡ state_length → j < slots
    → x ≡ (slot (words s₀) j).serial % 1048576 + 1048576 * size_at (words s₀) j
    → v ≡ cell_limit * grade_in (slot (words s₀) j) → s₁ ≡ put_word s₀ (serial_at j) x → s₂ ≡ put_word s₁ (cell_count_at j) v
    → Cancelled j (words s₀) (words s₂)
slot_cancelled j s₀ s₁ s₂ {x} {v} long low is kept e₁ e₂ =
    let l₁ : length s₁ ≡ length s₀ = ap length e₁ ∙ put_length s₀ (serial_at j) x in
    let l = words_length s₀ in
    let few = min-le_right (get_or (words s₀) (cell_count_at j) 0 % cell_limit) most_pairs in
    rw (
      e₂,
      put_word_lem s₁ (cell_count_at j) v (omega arith) (omega arith),
      e₁,
      put_word_lem s₀ (serial_at j) x (omega arith) (omega arith),
    ) (slot_silenced j x v (words s₀) low (omega arith) is kept)
