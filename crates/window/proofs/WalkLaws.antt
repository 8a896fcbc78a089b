-- Laws of a walk over the window from its oldest slot on: one for each way that a turn goes. Assumes nothing.
use Prim.Native.Nat.{ℕ, suc, ◌+◌, ◌-◌, ◌%◌, ◌≤◌, ◌<◌}
use native.Mathlib.Omega.{arith}
use mathlib.Core.Path.{◌≡◌, refl, sym, ap, ◌∙◌, subst}
use mathlib.Core.Bool.{Bool, true, false, cond, ◌||◌, or_assoc, or-false}
use mathlib.Core.List.{List, [], ◌∷◌, ◌++◌, map, map-append}
use lib.ListN.{length, get_or}
use lib.Dec.{eqb, ltb}
use mathlib.Core.Logic.{◌⊎◌, inl, inr, ⊎_elim}
use borrow.Author.Tests.{eqb-true, eq-eqb, ne_eqb, lt-ltb, le-ltb}
use Rattle.paper.proofs.Tests.{by_bool}
use Rattle.std.proofs.lemmas.Bool.Decides.{nat_tests}
use Rattle.paper.proofs.SortLaws.{in_right}
use Rattle.paper.specs.Order.{In}
use Rattle.paper.specs.Sort.{select}
use Rattle.paper.specs.Window.{past}
use Rattle.paper.specs.Layout.{slots, cell_count_at, cell_limit}
use Rattle.window.specs.Slot.{Slot, slot, size_at, next, ring, window, live, drop_past, seek, holds_serial}
use Rattle.window.proofs.RingLaws.{ring_step, ring_none, ring_append, ring_cut, ring_last}

module _ (w : List ℕ) (o n : ℕ) (some : 0 < n) where
  window_step : window w o n ≡ slot w o ∷ window w (next o) (n - 1)
  window_step = ap (map (slot w)) (ring_step o n some)

  -- letting past messages go: the oldest isn't past, or it goes
  module _ (T clock : ℕ) {x : ℕ} {b : Bool} (read : x ≡ (slot w o).time) (test : b ≡ past T clock x) where
    told : {d : Bool} → b ≡ d → past T clock (slot w o).time ≡ d
    told e = ap (past T clock) (sym read) ∙ sym test ∙ e

    pub past_stop : b ≡ false → window w o n ≡ drop_past T clock (window w o n)
    unfolding drop_past
    past_stop e = rw (window_step, told e)

    pub past_go : b ≡ true → {p : ℕ} → p ≡ next o → drop_past T clock (window w p (n - 1)) ≡ drop_past T clock (window w o n)
    unfolding drop_past
    past_go e h = rw (h, window_step, told e)

-- none left
pub past_none : (w : List ℕ) (o n : ℕ) → n ≤ 0 → (T clock : ℕ) → window w o n ≡ drop_past T clock (window w o n)
unfolding drop_past
past_none w o n h T clock = rw (ring_none o n h)

-- ---- looking for a serial

module _ (s : ℕ) where
  holds_append : (xs ys : List Slot) → holds_serial s (xs ++ ys) ≡ (holds_serial s xs || holds_serial s ys)
  unfolding holds_serial
  holds_append [] ys = refl
  holds_append (x ∷ xs) ys = rw (holds_append xs ys) (sym (or_assoc (eqb x.serial s) (holds_serial s xs) (holds_serial s ys)))

  module _ (w : List ℕ) where
    pub serial_none : (o n : ℕ) → n ≡ 0 → false ≡ holds_serial s (window w o n)
    unfolding holds_serial ring
    serial_none o n z = rw z

    -- slot j, after those from slot o up to it
    pub serial_more : (o j : ℕ) → o ≤ j → j < slots → {x : ℕ} → x ≡ (slot w j).serial → {b : Bool} → b ≡ holds_serial s (window w o (j - o))
        → (b || eqb x s) ≡ holds_serial s (window w o (j + 1 - o))
    unfolding holds_serial
    serial_more o j h k read e =
        let n : j + 1 - o ≡ suc (j - o) = omega arith in
        let p : (o + (j - o)) % slots ≡ j = omega arith in
        rw (e, read, n, ring_last o (j - o) (omega arith), p, map-append (slot w) (ring o (j - o)) (j ∷ []), holds_append, or-false)

    -- a window that goes around, in two parts
    pub serial_parts : (o n m : ℕ) → o < slots → slots ≤ o + n → m ≡ o + n - slots → {a b : Bool} → a ≡ holds_serial s (window w o (slots - o))
        → b ≡ holds_serial s (window w 0 m) → (a || b) ≡ holds_serial s (window w o n)
    serial_parts o n m h k z e f = rw (e, f, z, ring_cut o n h k, map-append (slot w) (ring o (slots - o)) (ring 0 (o + n - slots)), holds_append)

-- ---- the first slot that has it

module _ (w : List ℕ) (s o n : ℕ) where
  pub seek_none : n ≤ 0 → seek w s (ring o n) ≡ slots
  unfolding seek
  seek_none h = rw (ring_none o n h)

  module _ (some : 0 < n) {x : ℕ} (read : x ≡ (slot w o).serial) where
    pub seek_here : x ≡ s → seek w s (ring o n) ≡ o
    unfolding seek
    seek_here e = rw (ring_step o n some, eq-eqb (slot w o).serial s (sym read ∙ e))

    pub seek_next : (x ≡ s → ⊥) → {p : ℕ} → p ≡ next o → seek w s (ring p (n - 1)) ≡ seek w s (ring o n)
    unfolding seek
    seek_next ne e = rw (e, ring_step o n some, ne_eqb (slot w o).serial s (λ z. ne (read ∙ z)))

-- slots that don't have it are passed over
seek_past : (w : List ℕ) (s : ℕ) (xs ys : List ℕ) → holds_serial s (map (slot w) xs) ≡ false → seek w s (xs ++ ys) ≡ seek w s ys
unfolding seek holds_serial
seek_past w s [] ys e = refl
seek_past w s (x ∷ xs) ys e = let ih = seek_past w s xs ys in grind (arith, nat_tests)

pub seek_run : (w : List ℕ) (s o n run : ℕ) → o < slots → run ≤ n → {b : Bool} → b ≡ holds_serial s (window w o (o + run - o)) → b ≡ false
    → seek w s (ring ((o + run) % slots) (n - run)) ≡ seek w s (ring o n)
seek_run w s o n run low h e none =
    let r : o + run - o ≡ run = omega arith in
    let parts : run + (n - run) ≡ n = omega arith in
    sym (ap (seek w s) (ap (ring o) (sym parts) ∙ ring_append o run (n - run) low)
    ∙ seek_past w s (ring o run) (ring ((o + run) % slots) (n - run)) (ap (λ (k : ℕ). holds_serial s (window w o k)) (sym r) ∙ sym e ∙ none))

-- what the slot found is among the slots sought through
pub record Found (w : List ℕ) (s : ℕ) (js : List ℕ) (r : ℕ) : Type 0 where
  pub before : List ℕ
  pub after : List ℕ
  pub parts : js ≡ before ++ (r ∷ after)
  pub serial : (slot w r).serial ≡ s

pub found_in : {w : List ℕ} {s : ℕ} {js : List ℕ} {r : ℕ} → Found w s js r → In r js
found_in {r = r} f = subst (In r) (sym f.parts) (in_right r f.before (r ∷ f.after) (inl refl))

pub seek_cases : (w : List ℕ) (s : ℕ) (js : List ℕ)
    → ((seek w s js ≡ slots) × (holds_serial s (map (slot w) js) ≡ false)) ⊎ (Found w s js (seek w s js) × (holds_serial s (map (slot w) js) ≡ true))
unfolding seek holds_serial
seek_cases w s [] = inl (refl, refl)
seek_cases w s (j ∷ js) =
    by_bool (eqb (slot w j).serial s)
    (λ e. rw e (inr (record { before = []; after = js; parts = refl; serial = eqb-true (slot w j).serial s e }, refl)))
    (λ e. rw e
    (⊎_elim (λ p. inl p)
    (λ p. inr (record { before = j ∷ p.0.before; after = p.0.after; parts = ap (λ (l : List ℕ). j ∷ l) p.0.parts; serial = p.0.serial }, p.1))
    (seek_cases w s js)))

-- ---- how many are in force

-- those before slot j are counted
pub record Counting (w : List ℕ) (first count found j left : ℕ) : Type 0 where
  pub most : found + left ≤ count
  number : found + length (live w (ring j left)) ≡ length (live w (ring first count))

pub counting_start : {w : List ℕ} {first count : ℕ} → Counting w first count 0 first count
counting_start = record { most = omega arith; number = omega arith }

module _ {w : List ℕ} {first count found j left : ℕ} (c : Counting w first count found j left) where
  module _ (some : 0 < left) {v p : ℕ} (read : v ≡ size_at w j) (e : p ≡ next j) where
    step : live w (ring j left) ≡ cond (ltb 0 (get_or w (cell_count_at j) 0 % cell_limit)) (j ∷ live w (ring p (left - 1))) (live w (ring p (left - 1)))
    unfolding live select slot
    step = rw (e, ring_step j left some)

    pub counting_hit : 0 < v → Counting w first count (found + 1) p (left - 1)
    counting_hit h =
        let l = ap length (rw (lt-ltb 0 (get_or w (cell_count_at j) 0 % cell_limit) (omega arith)) at step) in
        record { most = omega (arith, c.most); number = omega (arith, c.number) }

    pub counting_miss : v ≤ 0 → Counting w first count found p (left - 1)
    counting_miss h =
        let l = ap length (rw (le-ltb 0 (get_or w (cell_count_at j) 0 % cell_limit) (omega arith)) at step) in
        record { most = omega (arith, c.most); number = omega (arith, c.number) }

  pub counting_end : left ≤ 0 → (found ≡ length (live w (ring first count))) × (found ≤ count)
  unfolding live select
  counting_end none = (omega (arith, c.number, ap (λ (js : List ℕ). length (live w js)) (ring_none j left none)), omega (arith, c.most))
