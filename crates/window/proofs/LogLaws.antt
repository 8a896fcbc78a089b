-- The window and the paper log: a window that holds what fills a place holds it again once past messages left and room was made; the slots in
-- force and the serials among them. Assumes nothing.
use Prim.Native.Nat.{ℕ, ◌+◌, ◌-◌, ◌^◌, ◌≤◌, ◌<◌}
use native.Mathlib.Nat.{add-zero}
use native.Mathlib.Omega.{arith}
use mathlib.Core.Path.{◌≡◌, refl, sym, ap, ap₂, ◌∙◌}
use mathlib.Core.Bool.{Bool, true, false, cond}
use mathlib.Core.List.{List, [], ◌∷◌, ◌++◌, map}
use lib.ListN.{length, drop, length-map}
use lib.Dec.{ltb}
use borrow.Author.Tests.{ltb-true, ltb-false, lt-ltb}
use Rattle.std.proofs.lemmas.Bool.Decides.{nat_tests}
use Rattle.paper.specs.Frame.{serial_width}
use Rattle.paper.specs.Window.{Message, filling, filled}
use Rattle.paper.specs.Layout.{slots}
use Rattle.paper.specs.Log.{Log, has_serial, filled_at, filled_now}
use Rattle.paper.specs.Sort.{select}
use Rattle.paper.specs.Sound.{Chronological, Messages, Sound}
use Rattle.paper.proofs.WindowLaws.{active, fills, filling_true, staying, staying_none, all_stay, vacating, vacating_staying}
use Rattle.window.specs.Slot.{Slot, slot, stored, silenced, held, ring, window, live, next, drop_past, holds_serial}
use Rattle.window.specs.Cursor.{Advanced, Roomy}
use Rattle.window.proofs.RingLaws.{ring_length, ring_step}
use Rattle.window.proofs.SlotLaws.{live_slots}

-- ---- cancelled or in force

pub held_time : (m : Message) → (held m).time ≡ m.time
unfolding stored silenced
held_time m = grind arith

-- no frame can say the serial of one that is cancelled
pub holds_serial_lem : (s : ℕ) → s < 2 ^ serial_width → (ms : List Message) → Messages ms → holds_serial s (map held ms) ≡ has_serial s (select active ms)
unfolding holds_serial has_serial stored silenced select
holds_serial_lem s h [] v = refl
holds_serial_lem s h (m ∷ ms) v = let ih = holds_serial_lem s h ms v.2 in let some = v.1.least_one in grind (arith, nat_tests)

-- so one that has a serial that a frame can say isn't
pub held_serial : (s : ℕ) → s < 2 ^ serial_width → (m : Message) → 1 ≤ length m.pairs → (held m).serial ≡ s → (m.cancelled ≡ false) × (m.serial ≡ s)
unfolding stored silenced
held_serial s h m some e = grind arith

-- the slots in force of some that hold messages hold those in force
pub live_shows : (w js : List ℕ) (ms : List Message) → Messages ms → map (slot w) js ≡ map held ms → map (slot w) (live w js) ≡ map stored (select active ms)
unfolding stored silenced select
live_shows w js ms v e = live_slots w js ∙ ap (select (λ x. ltb 0 x.size)) e ∙ go ms v
  where
    go : (ms : List Message) → Messages ms → select (λ x. ltb 0 x.size) (map held ms) ≡ map stored (select active ms)
    go [] v = refl
    go (m ∷ ms) v = let ih = go ms v.2 in let some = v.1.least_one in grind (arith, nat_tests)

-- all of them where none is cancelled
pub live_all : (w js : List ℕ) (ms : List Message) → Messages ms → map (slot w) js ≡ map stored ms → live w js ≡ js
unfolding live stored select
live_all w [] ms v e = refl
live_all w (j ∷ js) [] v e = absurd (let l = ap length e in omega arith)
live_all w (j ∷ js) (m ∷ ms) v e =
    let size : (slot w j).size ≡ length m.pairs = ap first_size e in
    rw (size, lt-ltb 0 (length m.pairs) v.1.least_one, live_all w js ms v.2 (ap (drop 1) e))
  where
    first_size : List Slot → ℕ
    first_size [] = 0
    first_size (x ∷ xs) = x.size

-- ---- past messages go

module _ (N T : ℕ) where
  -- what departs as only the clock moves on is past
  vacating_past : (t t' : ℕ) (l ms : List Message) → drop_past T t' (map held (vacating N T t t' 0 l ++ ms)) ≡ drop_past T t' (map held ms)
  unfolding drop_past vacating
  vacating_past t t' [] ms = refl
  vacating_past t t' (m ∷ l) ms = let ih = vacating_past t t' l ms in let e = held_time m in rw (add-zero (length l)) (grind arith)

  -- the first in force isn't past
  filled_first : (t : ℕ) (l : List Message) → drop_past T t (map held (filled N T t l)) ≡ map held (filled N T t l)
  unfolding drop_past filled
  filled_first t [] = refl
  filled_first t (m ∷ l) = let ih = filled_first t l in let e = held_time m in grind arith

  pub past_filled : (t t' c : ℕ) (l : List Message) → Chronological c l → t ≤ t' → drop_past T t' (map held (filled N T t l)) ≡ map held (filled N T t' l)
  past_filled t t' c l o h =
      ap (λ (ms : List Message). drop_past T t' (map held ms)) (vacating_staying N T t t' 0 c l o h)
      ∙ vacating_past t t' l (staying N T t' 0 l)
      ∙ ap (λ (ms : List Message). drop_past T t' (map held ms)) (staying_none N T t' l)
      ∙ filled_first t' l

-- ---- room for one more

-- what stays of all that are in force: all where there is room, else all but the first
abbrev pub Room : ℕ → List Message → List Message → Type 0
Room N all stay = (length all < N → stay ≡ all) × (N ≤ length all → stay ≡ drop 1 all)

module _ (N T : ℕ) where
  pub staying_room : (t c : ℕ) (l : List Message) → Chronological c l → Room N (filled N T t l) (staying N T t 1 l)
  unfolding staying filled
  staying_room t c [] o = (λ _. refl, λ _. refl)
  staying_room t c (m ∷ l) o = go (filling N T t (length l) m) refl (filling N T t (length l + 1) m) refl (staying_room t c l o.2)
    where
      all : List Message
      all = filled N T t l

      stay : List Message
      stay = staying N T t 1 l

      whole : (more : ℕ) → filling N T t (length l) m ≡ true → more ≤ 1 → staying N T t more l ≡ l
      whole more e h = all_stay N T t (length l) more m e l (omega arith) o.1

      go : (b : Bool) → filling N T t (length l) m ≡ b → (d : Bool) → filling N T t (length l + 1) m ≡ d → Room N all stay
          → Room N (cond b (m ∷ all) all) (cond d (m ∷ stay) stay)
      go true e true f ih =
          let p = fills N T t (length l + 1) m f in
          rw (← staying_none N T t l, whole 0 e (omega arith), whole 1 e (omega arith)) (λ _. refl, λ h. absurd (omega arith))
      go true e false f ih =
          let p = fills N T t (length l) m e in
          rw (← staying_none N T t l, whole 0 e (omega arith), whole 1 e (omega arith))
          (λ h. let s = filling_true N T t (length l + 1) m (omega arith) p.1 in let z : ◌≡◌ {A = ℕ} 0 1 = cc in absurd (omega arith), λ _. refl)
      go false e true f ih =
          let p = fills N T t (length l + 1) m f in
          let s = filling_true N T t (length l) m (omega arith) p.1 in
          let z : ◌≡◌ {A = ℕ} 0 1 = cc in
          absurd (omega arith)
      go false e false f ih = ih

-- ---- the window holds what is in force

pub window_count : (w : List ℕ) (o n : ℕ) (ms : List Message) → window w o n ≡ map held ms → n ≡ length ms
window_count w o n ms e = sym (ring_length o n) ∙ sym (length-map (ring o n) (slot w)) ∙ ap length e ∙ length-map ms held

pub advanced_shows : {w : List ℕ} {o n t clock o' n' : ℕ} (log : Log) → Sound log → log.clock ≤ t → window w o n ≡ map held (filled_now log)
    → Advanced w log.T o n t clock o' n' → window w o' n' ≡ map held (filled_at log t)
advanced_shows {t = t} log sound h e a =
    a.shows ∙ ap (drop_past log.T t) e ∙ past_filled log.N log.T log.clock t log.clock log.messages sound.ordered h

drop_map : (ms : List Message) → drop 1 (map held ms) ≡ map held (drop 1 ms)
drop_map [] = refl
drop_map (m ∷ ms) = refl

-- with room for one more
pub roomy_shows : {o n clock clock' o' n' : ℕ} (w : List ℕ) (log : Log) (t : ℕ) → Sound log → o < slots → window w o n ≡ map held (filled_at log t)
    → Roomy log.N clock o n clock' o' n' → window w o' n' ≡ map held (staying log.N log.T t 1 log.messages)
roomy_shows {o} {n} {clock} {clock'} {o'} {n'} w log t sound low e r = go (ltb n log.N) refl
  where
    room : Room log.N (filled_at log t) (staying log.N log.T t 1 log.messages)
    room = staying_room log.N log.T t log.clock log.messages sound.ordered

    go : (b : Bool) → ltb n log.N ≡ b → window w o' n' ≡ map held (staying log.N log.T t 1 log.messages)
    go true f =
        let h = ltb-true n log.N f in
        let c = window_count w o n (filled_at log t) e in
        let same = r.room h in
        let q = r.moved.oldest_is in
        let p : o' ≡ o = omega arith in
        ap₂ (window w) p same ∙ e ∙ ap (map held) (sym (room.0 (omega arith)))
    go false f =
        let h = ltb-false n log.N f in
        let c = window_count w o n (filled_at log t) e in
        let k = sound.n_least in
        let less = r.full h (omega arith) in
        let q = r.moved.oldest_is in
        let p : o' ≡ next o = omega arith in
        let z : n' ≡ n - 1 = omega arith in
        ap₂ (window w) p z
        ∙ ap (λ (js : List ℕ). drop 1 (map (slot w) js)) (sym (ring_step o n (omega arith)))
        ∙ ap (drop 1) e
        ∙ drop_map (filled_at log t)
        ∙ ap (map held) (sym (room.1 (omega arith)))
