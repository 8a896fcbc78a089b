-- A message cancelled: the window changes as the log's does, and memory then holds the log after it. Assumes nothing.
use Prim.Native.Nat.{ℕ, ◌+◌, ◌-◌, ◌≤◌, ◌<◌, ◌^◌}
use native.Mathlib.Nat.{add-zero}
use native.Mathlib.Omega.{arith}
use mathlib.Core.Path.{◌≡◌, refl, sym, ap, ap₂, ◌∙◌, subst, subst₂}
use mathlib.Core.Bool.{Bool, false, cond, ◌||◌, or_assoc}
use mathlib.Core.Logic.{inl, inr, ⊎_elim}
use mathlib.Core.List.{List, [], ◌∷◌, ◌++◌, map, map-append, append-nil}
use lib.ListN.{length, drop, length-append}
use lib.Dec.{eqb, ltb}
use borrow.Author.Tests.{lt-ltb}
use Rattle.paper.specs.Frame.{Pairs, Valid, count_width, most_pairs, serial_width}
use Rattle.paper.specs.Frame.Frame.{cancel}
use Rattle.paper.specs.Window.{Message, withdrawn}
use Rattle.paper.specs.Layout.{slots}
use Rattle.paper.specs.Log.{Log, in_force_now, filled_now, filled_at, has_serial, judge_frame, accept, departs, stays}
use Rattle.paper.specs.Order.{In, Ordered, Split}
use Rattle.paper.specs.Order.Split.{goes, remains}
use Rattle.paper.specs.Sort.{select}
use Rattle.paper.specs.Sound.{Messages}
use Rattle.paper.proofs.LogLaws.{in_force_before, in_force_valid, filled_valid, vacates, keeps, places_at}
use Rattle.paper.proofs.CancelLaws.{Withdrawal, withdrawal}
use Rattle.paper.proofs.SortLaws.{split_first, split_apart, in_append, in_left, in_right}
use Rattle.paper.proofs.WindowLaws.{active}
use Rattle.rank.specs.Listing.{has_number}
use Rattle.window.specs.Slot.{Slot, slot, stored, silenced, held, ring, window, live, holds_serial}
use Rattle.window.specs.Cursor.{Moved}
use Rattle.window.proofs.RingLaws.{moved_below, moved_parts}
use Rattle.window.proofs.SlotLaws.{others_kept, cancelled_own, live_append, live_in, live_same}
use Rattle.window.proofs.WalkLaws.{Found, found_in}
use Rattle.window.proofs.LogLaws.{holds_serial_lem, held_serial, live_shows}
use Rattle.candidates.proofs.MatchLaws.{in_ring_lem, ring_apart}
use Rattle.query.specs.Post.{Change, arriving}
use Rattle.query.proofs.RecordLaws.{map_agree}
use Rattle.engine.specs.Represents.{oldest_of, count_of, Represents}
use Rattle.engine.specs.Inner.{Silenced, moving}
use Rattle.engine.proofs.ArrivingLaws.{arriving_one}
use Rattle.engine.proofs.StepLaws.{Prepared, parts_apart, vacated, vacated_count, both_valid, numbers_held}

-- ---- one taken out of a list

module _ {A : Type 0} where
  split_out : (a : List A) (j : A) (b : List A) → Split (a ++ (j ∷ b)) (j ∷ []) (a ++ b)
  split_out [] j b = goes (split_first [] b)
  split_out (x ∷ a) j b = remains (split_out a j b)

  split_more : (p : List A) {all gone stay : List A} → Split all gone stay → Split (p ++ all) (p ++ gone) stay
  split_more [] s = s
  split_more (x ∷ p) s = goes (split_more p s)

-- slots hold messages, of which slot j holds c
record Cut (w a : List ℕ) (j : ℕ) (b : List ℕ) (ms : List Message) : Type 0 where
  fa : List Message
  c : Message
  fb : List Message
  parts : ms ≡ fa ++ (c ∷ fb)
  first : map (slot w) a ≡ map held fa
  here : slot w j ≡ held c
  rest : map (slot w) b ≡ map held fb

abbrev head_of : Slot → List Slot → Slot
head_of d [] = d
head_of d (x ∷ xs) = x

cut : (w a : List ℕ) (j : ℕ) (b : List ℕ) (ms : List Message) → map (slot w) (a ++ (j ∷ b)) ≡ map held ms → Cut w a j b ms
cut w [] j b [] e = absurd (let l = ap length e in omega arith)
cut w [] j b (m ∷ ms) e = record { fa = []; c = m; fb = ms; parts = refl; first = refl; here = ap (head_of (slot w j)) e; rest = ap (drop 1) e }
cut w (i ∷ a) j b [] e = absurd (let l = ap length e in omega arith)
cut w (i ∷ a) j b (m ∷ ms) e =
    let r = cut w a j b ms (ap (drop 1) e) in
    record {
      fa = m ∷ r.fa;
      c = r.c;
      fb = r.fb;
      parts = ap (λ (l : List Message). m ∷ l) r.parts;
      first = ap₂ (λ (x : Slot) (xs : List Slot). x ∷ xs) (ap (head_of (slot w i)) e) r.first;
      here = r.here;
      rest = r.rest;
    }

pair_valid : (fa : List Message) (c : Message) (fb : List Message) → Messages (fa ++ (c ∷ fb))
    → Messages fa × (Pairs count_width most_pairs c.pairs) × Messages fb
pair_valid [] c fb v = (tt, v.1, v.2)
pair_valid (m ∷ fa) c fb v = let r = pair_valid fa c fb v.2 in ((v.0, v.1, r.0), r.1, r.2)

has_number_append : (s : ℕ) (xs ys : List ℕ) → has_number s (xs ++ ys) ≡ (has_number s xs || has_number s ys)
unfolding has_number
has_number_append s [] ys = refl
has_number_append s (x ∷ xs) ys = rw (has_number_append s xs ys) (sym (or_assoc (eqb x s) (has_number s xs) (has_number s ys)))

has_serial_append : (s : ℕ) (xs ys : List Message) → has_serial s (xs ++ ys) ≡ (has_serial s xs || has_serial s ys)
unfolding has_serial
has_serial_append s [] ys = refl
has_serial_append s (x ∷ xs) ys = rw (has_serial_append s xs ys) (sym (or_assoc (eqb x.serial s) (has_serial s xs) (has_serial s ys)))

-- ---- the change

module _ (log : Log) (w : List ℕ) (r : Represents log w) (t s : ℕ) (v : Valid (cancel t s)) (late : log.clock ≤ t) (ok : judge_frame log (cancel t s) ≡ 0)
    {o' n' : ℕ} (moved : Moved (oldest_of w) (count_of w) o' n') (left : window w o' n' ≡ map held (filled_at log t)) {j : ℕ} (found : Found w s (ring o' n') j)
    {w₂ silent : List ℕ} (p : Prepared (cancel t s) w (oldest_of w) (count_of w) o' n' slots w₂) (quiet : Silenced j w₂ silent) where
  abbrev gone : List ℕ
  gone = ring (oldest_of w) (count_of w - n')

  abbrev a : List ℕ
  a = found.before

  abbrev b : List ℕ
  b = found.after

  low : o' < slots
  low = moved_below r.oldest_below moved

  there : In j (ring o' n')
  there = found_in found

  inside : j < slots
  inside = (in_ring_lem o' n' j low there).0

  -- what the slots hold
  held_there : map (slot w₂) (a ++ (j ∷ b)) ≡ map held (filled_at log t)
  held_there = ap (map (slot w₂)) (sym found.parts) ∙ p.left_same ∙ left

  parts : Cut w₂ a j b (filled_at log t)
  parts = cut w₂ a j b (filled_at log t) held_there

  abbrev c : Message
  c = parts.c

  valid : Messages parts.fa × (Pairs count_width most_pairs c.pairs) × Messages parts.fb
  valid = pair_valid parts.fa c parts.fb (subst Messages parts.parts (filled_valid log t r.sound))

  same_slot : slot w₂ j ≡ slot w j
  same_slot =
      p.slots_same j inside
      (in_ring_lem (oldest_of w) (count_of w) j r.oldest_below (subst (In j) (sym (moved_parts r.oldest_below moved)) (in_right j gone (ring o' n') there))).1

  -- it is the message in force with the serial
  known : (c.cancelled ≡ false) × (c.serial ≡ s)
  known = held_serial s v.1 c valid.1.least_one (ap (λ (x : Slot). x.serial) (sym parts.here ∙ same_slot) ∙ found.serial)

  stored_there : slot w₂ j ≡ stored c
  stored_there = parts.here ∙ ap (λ (x : Bool). cond x (silenced (stored c)) (stored c)) known.0

  whole : Withdrawal log t s parts.fa c parts.fb
  whole = withdrawal log t s r.sound late parts.fa c parts.fb parts.parts known.0 known.1

  -- the others are as they were
  other : (i : ℕ) → i < slots → (i ≡ j → ⊥) → slot silent i ≡ slot w₂ i
  other i h ne = others_kept (quiet.one inside).keeps (cancelled_own j) inside i h ne

  in_window : (i : ℕ) → In i (a ++ b) → In i (ring o' n')
  in_window i m = subst (In i) (sym found.parts) (⊎_elim (λ x. in_left i a (j ∷ b) x) (λ x. in_right i a (j ∷ b) (inr x)) (in_append i a b m))

  beside_it : (i : ℕ) → In i (a ++ b) → (i < slots) × (i ≡ j → ⊥)
  beside_it i m = (
    (in_ring_lem o' n' i low (in_window i m)).0,
    λ e. split_apart i (split_out a j b)
        (subst (Ordered (λ x y. x ≡ y → ⊥)) found.parts (ring_apart o' n' low (let x = moved.count_most in let y = r.count_below in omega arith)))
        (inl e) m,
  )

  -- slots before and after it, once it is silent
  around : (js : List ℕ) → ((i : ℕ) → In i js → In i (a ++ b)) → (i : ℕ) → In i js → slot silent i ≡ slot w₂ i
  around js into i m = let x = beside_it i (into i m) in other i x.0 x.1

  before_same : (i : ℕ) → In i a → slot silent i ≡ slot w₂ i
  before_same = around a (λ i m. in_left i a b m)

  after_same : (i : ℕ) → In i b → slot silent i ≡ slot w₂ i
  after_same = around b (λ i m. in_right i a b m)

  -- those that leave their places
  gone_apart : (i : ℕ) → In i gone → In i (ring o' n') → ⊥
  gone_apart = parts_apart r.oldest_below r.count_below moved

  gone_same : (i : ℕ) → In i gone → slot silent i ≡ slot w₂ i
  gone_same i m =
      other i (in_ring_lem (oldest_of w) (count_of w - n') i r.oldest_below m).0
      (λ e. gone_apart i m (subst (In i) (sym found.parts) (in_right i a (j ∷ b) (inl e))))

  left_at : window w o' n' ≡ map held (keeps log t 0)
  left_at = left ∙ ap (map held) (sym (places_at log t))

  gone_places : map (slot w₂) gone ≡ map held (vacates log t 0)
  gone_places = p.gone_same ∙ vacated log w r t 0 late moved left_at

  gone_valid : Messages (vacates log t 0)
  gone_valid = (both_valid log w r t 0 late moved left_at).0

  -- it is live, and then it isn't
  live_here : (js : List ℕ) → live w₂ (j ∷ js) ≡ j ∷ live w₂ js
  unfolding live select stored
  live_here js = rw (stored_there, lt-ltb 0 (length c.pairs) valid.1.least_one)

  silent_here : live silent (j ∷ b) ≡ live silent b
  unfolding live select silenced
  silent_here = rw (quiet.one inside).silent

  abbrev stay_slots : List ℕ
  stay_slots = live w₂ a ++ live w₂ b

  stay_in : (i : ℕ) → In i stay_slots → In i (a ++ b)
  stay_in i m =
      ⊎_elim (λ x. in_left i a b (live_in w₂ a i x).0) (λ x. in_right i a b (live_in w₂ b i x).0) (in_append i (live w₂ a) (live w₂ b) m)

  -- all that were live, and those of them that leave
  live_before : live w₂ (ring (oldest_of w) (count_of w)) ≡ live w₂ gone ++ (live w₂ a ++ (j ∷ live w₂ b))
  live_before =
      ap (live w₂) (moved_parts r.oldest_below moved ∙ ap (λ (js : List ℕ). gone ++ js) found.parts)
      ∙ live_append w₂ gone (a ++ (j ∷ b))
      ∙ ap (λ (js : List ℕ). live w₂ gone ++ js) (live_append w₂ a (j ∷ b) ∙ ap (λ (js : List ℕ). live w₂ a ++ js) (live_here b))

  live_leaving : live w₂ (gone ++ arriving j) ≡ live w₂ gone ++ (j ∷ [])
  unfolding live select
  live_leaving = live_append w₂ gone (arriving j) ∙ ap (λ (js : List ℕ). live w₂ gone ++ js) (ap (live w₂) (arriving_one j inside) ∙ live_here [])

  -- the serials that go out of the lists
  serials_gone : (n : ℕ) → n < 2 ^ serial_width
      → has_number n (map (λ i. (slot silent i).serial) gone ++ cond (ltb j slots) (s ∷ []) []) ≡ has_serial n (departs log (cancel t s))
  unfolding has_number has_serial
  serials_gone n h =
      has_number_append n (map (λ i. (slot silent i).serial) gone) (cond (ltb j slots) (s ∷ []) [])
      ∙ ap₂ ◌||◌
      (ap (has_number n) (map_agree (λ i. (slot silent i).serial) (λ i. (slot w₂ i).serial) gone (λ i m. ap (λ (x : Slot). x.serial) (gone_same i m)))
      ∙ numbers_held w₂ gone n
      ∙ ap (holds_serial n) gone_places
      ∙ holds_serial_lem n h (vacates log t 0) gone_valid)
      (one n)
      ∙ sym (has_serial_append n (select active (vacates log t 0)) (c ∷ []))
      ∙ ap (has_serial n) (sym whole.departs_are)
    where
      one : (n : ℕ) → has_number n (cond (ltb j slots) (s ∷ []) []) ≡ has_serial n (c ∷ [])
      one n = ap (λ (x : Bool). has_number n (cond x (s ∷ []) [])) (lt-ltb j slots inside) ∙ ap (λ (x : ℕ). eqb x n || false) (sym known.1)

  pub cancel_change : Change w₂ silent (oldest_of w) (count_of w) (moving (oldest_of w) (count_of w) o' n' (n' + 0) slots j s)
      (in_force_now log) (departs log (cancel t s)) (stays log (cancel t s)) []
  cancel_change = record {
    first_below = r.oldest_below;
    then_below = low;
    stay_slots = stay_slots;
    before =
        subst₂ (λ (all leave : List ℕ). Split all leave stay_slots) (sym live_before) (sym live_leaving)
        (split_more (live w₂ gone) (split_out (live w₂ a) j (live w₂ b)));
    after =
        ap (λ (k : ℕ). live silent (ring o' k)) (add-zero n')
        ∙ ap (live silent) found.parts
        ∙ live_append silent a (j ∷ b)
        ∙ ap₂ ◌++◌ (live_same w₂ silent a before_same) (silent_here ∙ live_same w₂ silent b after_same)
        ∙ sym (append-nil stay_slots);
    same = λ i m. let x = beside_it i (stay_in i (subst (In i) (append-nil stay_slots) m)) in other i x.0 x.1;
    apart = λ i m k.
        ⊎_elim
        (λ x. gone_apart i x (in_window i (stay_in i k)))
        (λ x. ⊎_elim (λ e. (beside_it i (stay_in i k)).1 e) (λ e. e) (subst (In i) (arriving_one j inside) x))
        (in_append i gone (arriving j) m);
    split = in_force_before log (cancel t s) r.sound ok;
    gone =
        ap (map (slot w₂)) live_leaving
        ∙ map-append (slot w₂) (live w₂ gone) (j ∷ [])
        ∙ ap₂ ◌++◌ (live_shows w₂ gone (vacates log t 0) gone_valid gone_places) (ap (λ (x : Slot). x ∷ []) stored_there)
        ∙ sym (map-append stored (select active (vacates log t 0)) (c ∷ []))
        ∙ ap (map stored) (sym whole.departs_are);
    stay =
        map-append (slot w₂) (live w₂ a) (live w₂ b)
        ∙ ap₂ ◌++◌ (live_shows w₂ a parts.fa valid.0 parts.first) (live_shows w₂ b parts.fb valid.2 parts.rest)
        ∙ sym (map-append stored (select active parts.fa) (select active parts.fb))
        ∙ ap (map stored) (sym whole.stays_are);
    come = refl;
    serials = serials_gone;
    distinct = r.sound.distinct;
    valid = in_force_valid log r.sound;
    valid_new = tt;
  }

  pub cancel_places : window silent o' (n' + 0) ≡ map held (filled_now (accept log (cancel t s)))
  unfolding stored
  cancel_places =
      ap (window silent o') (add-zero n')
      ∙ ap (map (slot silent)) found.parts
      ∙ map-append (slot silent) a (j ∷ b)
      ∙ ap₂ ◌++◌ (map_agree (slot silent) (slot w₂) a before_same ∙ parts.first)
      (ap₂ (λ (x : Slot) (xs : List Slot). x ∷ xs) ((quiet.one inside).silent ∙ ap silenced stored_there)
      (map_agree (slot silent) (slot w₂) b after_same ∙ parts.rest))
      ∙ sym (map-append held parts.fa (withdrawn c ∷ parts.fb))
      ∙ ap (map held) (sym whole.places_are)

  pub cancel_count : length (live w gone) + 1 ≡ length (departs log (cancel t s))
  cancel_count =
      ap (λ (n : ℕ). n + 1) (vacated_count log w r t 0 late moved left_at)
      ∙ sym (length-append (select active (vacates log t 0)) (c ∷ []))
      ∙ ap length (sym whole.departs_are)
