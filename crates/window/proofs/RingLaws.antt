-- Laws of the ring: which slots a window has, and what is left of it when its oldest slots leave. Assumes nothing.
use Prim.Native.Nat.{ℕ, zero, suc, ◌+◌, ◌-◌, ◌%◌, ◌≤◌, ◌<◌}
use native.Mathlib.Nat.{not-suc-le-zero, mod-add-mod}
use native.Mathlib.Numerals.{add-one}
use native.Mathlib.Omega.{arith}
use mathlib.Core.Path.{◌≡◌, refl, sym, ap, ◌∙◌}
use mathlib.Core.List.{List, [], ◌∷◌, ◌++◌}
use lib.ListN.{length, get_or}
use Rattle.paper.specs.Layout.{slots}
use Rattle.window.specs.Slot.{next, ring}
use Rattle.window.specs.Cursor.{Moved}

-- ---- the slots of a window

pub ring_length : (o n : ℕ) → length (ring o n) ≡ n
unfolding ring
ring_length o zero = refl
ring_length o (suc n) = ap suc (ring_length (next o) n)

-- the first, and the rest
pub ring_step : (o n : ℕ) → 0 < n → ring o n ≡ o ∷ ring (next o) (n - 1)
unfolding ring
ring_step o zero h = absurd (not-suc-le-zero h)
ring_step o (suc n) h = let e : n ≡ suc n - 1 = omega arith in ap (λ (k : ℕ). o ∷ ring (next o) k) e

pub ring_none : (o n : ℕ) → n ≤ 0 → ring o n ≡ []
unfolding ring
ring_none o zero h = refl
ring_none o (suc n) h = absurd (not-suc-le-zero h)

-- a window in two parts
pub ring_append : (o a b : ℕ) → o < slots → ring o (a + b) ≡ ring o a ++ ring ((o + a) % slots) b
unfolding ring
ring_append o zero b h =
    let e : o ≡ (o + 0) % slots = omega arith in
    let z : 0 + b ≡ b = omega arith in
    rw z (ap (λ (p : ℕ). ring p b) e)
ring_append o (suc a) b h =
    let e : (next o + a) % slots ≡ (o + suc a) % slots = omega arith in
    let z : suc a + b ≡ suc (a + b) = omega arith in
    rw z (ap (λ (l : List ℕ). o ∷ l) (ring_append (next o) a b (omega arith) ∙ ap (λ (p : ℕ). ring (next o) a ++ ring p b) e))

-- a window that goes around: the slots up to the last one, and those from slot 0 on
pub ring_cut : (o n : ℕ) → o < slots → slots ≤ o + n → ring o n ≡ ring o (slots - o) ++ ring 0 (o + n - slots)
ring_cut o n h k =
    let e : n ≡ (slots - o) + (o + n - slots) = omega arith in
    let z : (o + (slots - o)) % slots ≡ 0 = omega arith in
    ap (ring o) e ∙ ring_append o (slots - o) (o + n - slots) h ∙ ap (λ (p : ℕ). ring o (slots - o) ++ ring p (o + n - slots)) z

-- the last
pub ring_last : (o n : ℕ) → o < slots → ring o (suc n) ≡ ring o n ++ (((o + n) % slots) ∷ [])
unfolding ring
ring_last o n h = ap (ring o) (sym (add-one n)) ∙ ring_append o n 1 h

-- each slot by its place in the window
pub ring_at : (o n i : ℕ) → o < slots → i < n → get_or (ring o n) i 0 ≡ (o + i) % slots
unfolding ring
ring_at o zero i h k = absurd (not-suc-le-zero k)
ring_at o (suc n) zero h k = omega arith
ring_at o (suc n) (suc i) h k = let ih = ring_at (next o) n i (omega arith) (omega arith) in omega arith

pub ring_below : (o n i : ℕ) → o < slots → i < n → get_or (ring o n) i 0 < slots
ring_below o n i h k = let e = ring_at o n i h k in omega arith

-- ---- a window that moved

module _ {o n o' n' : ℕ} (low : o < slots) (moved : Moved o n o' n') where
  pub moved_below : o' < slots
  moved_below = omega arith

  -- the slots that left are the first of it
  pub moved_parts : ring o n ≡ ring o (n - n') ++ ring o' n'
  moved_parts =
      let c = moved.count_most in
      let e : n ≡ (n - n') + n' = omega arith in
      ap (ring o) e ∙ ring_append o (n - n') n' low ∙ ap (λ (p : ℕ). ring o (n - n') ++ ring p n') (sym moved.oldest_is)

  -- it ends where it ended
  pub moved_end : (o' + n') % slots ≡ (o + n) % slots
  moved_end = omega arith

-- and that moved again
pub moved_trans : {o n o' n' o'' n'' : ℕ} → Moved o n o' n' → Moved o' n' o'' n'' → Moved o n o'' n''
moved_trans {o} {n} {o'} {n'} {o''} {n''} p q =
    let c = p.count_most in
    let d = q.count_most in
    let e : o + (n - n') + (n' - n'') ≡ o + (n - n'') = omega arith in
    record {
      count_most = omega arith;
      oldest_is =
          q.oldest_is
          ∙ ap (λ (x : ℕ). (x + (n' - n'')) % slots) p.oldest_is
          ∙ mod-add-mod (o + (n - n')) slots (n' - n'')
          ∙ ap (λ (x : ℕ). x % slots) e;
    }

-- one slot more left
pub moved_step : {o n p k : ℕ} → p < slots → Moved o n p k → 0 < k → {q : ℕ} → q ≡ next p → Moved o n q (k - 1)
moved_step low m h e = moved_trans m (record { count_most = omega arith; oldest_is = omega arith })
