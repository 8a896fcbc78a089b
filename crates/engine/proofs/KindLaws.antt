-- The kinds of frame: what each function's calls give together. Assumes nothing.
use Prim.Native.Nat.{ℕ, suc, ◌+◌, ◌≤◌, ◌<◌, ◌^◌}
use native.Mathlib.Nat.{add-zero}
use native.Mathlib.Omega.{arith}
use mathlib.Core.Path.{◌≡◌, refl, sym, ap, ◌∙◌, subst, subst₂}
use mathlib.Core.Bool.{Bool, true, false, cond}
use mathlib.Core.Logic.{⊎_elim}
use mathlib.Core.List.{List, map}
use lib.ListN.{get_or}
use lib.Dec.{ltb}
use borrow.Author.Tests.{le-ltb, ltb-true, ltb-false}
use Rattle.paper.specs.Frame.{Urgency, Form, Frame, Pair, Valid, grade_of, serial_width}
use Rattle.paper.specs.Frame.Frame.{message, tick, cancel}
use Rattle.paper.specs.Window.{arrival, most_messages}
use Rattle.paper.specs.Layout.{slots, life_at, capacity_at}
use Rattle.paper.specs.Log.{Log, in_force_at, filled_at, has_serial, time_of, judge_kind, judge_frame, accept}
use Rattle.paper.specs.Sound.{Sound}
use Rattle.paper.proofs.LogLaws.{places_at, filled_valid}
use Rattle.paper.proofs.WindowLaws.{in_force_filled}
use Rattle.memory.specs.Words.{words}
use Rattle.window.specs.Slot.{Slot, held, ring, window, holds_serial, seek}
use Rattle.window.specs.Cursor.{Loaded, Advanced, Roomy, Moved}
use Rattle.window.proofs.RingLaws.{moved_below, moved_trans}
use Rattle.window.proofs.WalkLaws.{Found, found_in, seek_cases}
use Rattle.window.proofs.LogLaws.{holds_serial_lem, advanced_shows, roomy_shows}
use Rattle.std.specs.Prelude.{Ok, Err}
use Rattle.paper.specs.declared.refusal.Refusal.{Refusal}
use Rattle.paper.specs.declared.refusal.Refusal.TheVariants.{Serial, NotInForce}
use Rattle.paper.specs.Refusal.{number_of}
use Rattle.engine.specs.declared.Reply.{Reply}
use Rattle.engine.specs.Represents.{oldest_of, count_of, Represents}
use Rattle.engine.specs.Inner.{moving, Followed, Departed, Joined, Accepted, Ticked, Did}
use Rattle.candidates.proofs.MatchLaws.{in_ring_lem}
use Rattle.engine.proofs.StepLaws.{taken_in, plain_taken}
use Rattle.engine.proofs.CancelLaws.{cancel_change, cancel_places, cancel_count}
use Rattle.engine.proofs.PrepareLaws.{ticked, joined}

-- a time not below the clock
pub judged_kind : (log : Log) (f : Frame) → log.clock ≤ time_of f → judge_frame log f ≡ judge_kind log f
judged_kind log f h = ap (λ (b : Bool). cond b 7 (judge_kind log f)) (le-ltb (time_of f) log.clock h)

-- a serial in the window is one in force
pub serial_in_force : (log : Log) (t s : ℕ) → Sound log → s < 2 ^ serial_width → {xs : List Slot} → xs ≡ map held (filled_at log t)
    → holds_serial s xs ≡ has_serial s (in_force_at log t)
serial_in_force log t s sound h e =
    ap (holds_serial s) e
    ∙ holds_serial_lem s h (filled_at log t) (filled_valid log t sound)
    ∙ ap (has_serial s) (sym (in_force_filled log.N log.T t log.messages))

-- ---- the clock moves on

-- what is loaded, and a window that moved on, where memory holds a log
module _ {t life clock o n clock' o' n' : ℕ} {w : List ℕ} (loaded : Loaded w clock o n) (life-is : life ≡ get_or w life_at 0)
    (adv : Advanced w life o n t clock' o' n') (log : Log) (r : Represents log w) where
  oldest_loaded : o ≡ oldest_of w
  oldest_loaded = loaded.oldest_is r.oldest_below

  count_loaded : n ≡ count_of w
  count_loaded = loaded.count_is r.count_below

  pub moved_loaded : Moved (oldest_of w) (count_of w) o' n'
  moved_loaded = subst₂ (λ (a b : ℕ). Moved a b o' n') oldest_loaded count_loaded adv.moved

  -- what fills a place at the time
  pub places_loaded : log.clock ≤ t → window w o' n' ≡ map held (filled_at log t)
  places_loaded late =
      advanced_shows log r.sound late r.shows
      (subst (λ (l : ℕ). Advanced w l (oldest_of w) (count_of w) t clock' o' n') (life-is ∙ r.life)
      (subst₂ (λ (a b : ℕ). Advanced w life a b t clock' o' n') oldest_loaded count_loaded adv))

  pub departed_loaded : {cancelled serial : ℕ} {reply : Reply} {w₃ : List ℕ} → Departed clock' cancelled serial o n o' n' w reply w₃
      → Departed t cancelled serial (oldest_of w) (count_of w) o' n' w reply w₃
  departed_loaded {cancelled} {serial} {reply} {w₃} d =
      subst (λ (c : ℕ). Departed c cancelled serial (oldest_of w) (count_of w) o' n' w reply w₃) adv.clock_is
      (subst₂ (λ (a b : ℕ). Departed clock' cancelled serial a b o' n' w reply w₃) oldest_loaded count_loaded d)

pub ticked_by : {t life clock o n clock' o' n' : ℕ} {w w₃ : List ℕ} {reply : Reply}
    → Loaded w clock o n → life ≡ get_or w life_at 0 → Advanced w life o n t clock' o' n' → Departed clock' slots 0 o n o' n' w reply w₃ → Ticked t w reply w₃
ticked_by {t} {o' = o'} {n'} {w} {w₃} {reply} loaded life-is adv d = record {
  small = d.followed.passed.small;
  right = λ log r small late.
      let moved = moved_loaded loaded life-is adv log r in
      let e = departed_loaded loaded life-is adv log r d in
      plain_taken log (tick t) w r small (judged_kind log (tick t) late) (λ j m. refl) moved
      (places_loaded loaded life-is adv log r late ∙ ap (map held) (sym (places_at log t)))
      (ticked w (oldest_of w) (count_of w) o' n' r.oldest_below r.count_below moved (tick t) refl e.moved e.cursor)
      0 (subst (λ (c : ℕ). Followed e.moved (moving (oldest_of w) (count_of w) o' n' c slots slots 0) reply.marks w₃) (sym (add-zero n')) e.followed)
      (λ q. (unfold accept in refl, refl)) reply refl e.departures;
}

-- ---- refusals

-- a frame refused by the history leaves the memory as it was
pub refused_by : {s : List ℕ} {e : Refusal} (f : Frame) → ((log : Log) → Represents log (words s) → Valid f → judge_frame log f ≡ number_of e)
    → Did f s (Err e) s
refused_by f h = record { unchanged = refl; right = λ log r v. (sym (h log r v), tt) }

-- ---- a message

module _ (t s life clock o n : ℕ) (g : Form) (ps : List Pair) (w : List ℕ) (loaded : Loaded w clock o n) (life-is : life ≡ get_or w life_at 0)
    (clock₁ o₁ n₁ : ℕ) (adv : Advanced w life o n t clock₁ o₁ n₁) where
  module _ (log : Log) (r : Represents log w) (late : log.clock ≤ t) (v : Valid (message t s g ps)) where
    pub message_judged : (b : Bool) → b ≡ holds_serial s (window w o₁ n₁) → judge_frame log (message t s g ps) ≡ cond b 8 0
    message_judged b e =
        judged_kind log (message t s g ps) late
        ∙ ap (λ (c : Bool). cond {A = ℕ} c 8 0) (sym (e ∙ serial_in_force log t s r.sound v.serial (places_loaded loaded life-is adv log r late)))

    module _ (capacity clock₂ o' n' : ℕ) (capacity-is : capacity ≡ log.N) (roomy : Roomy capacity clock₁ o₁ n₁ clock₂ o' n')
        (reply : Reply) (w₃ : List ℕ) (j : Joined (arrival t s (grade_of g) ps) o n o' n' w reply w₃) (ok : judge_frame log (message t s g ps) ≡ 0)
        (room : n' < most_messages) where
      moved_on : Moved (oldest_of w) (count_of w) o' n'
      moved_on =
          subst₂ (λ (a b : ℕ). Moved a b o' n') (oldest_loaded loaded life-is adv log r) (count_loaded loaded life-is adv log r)
          (moved_trans adv.moved roomy.moved)

      joined_loaded : Joined (arrival t s (grade_of g) ps) (oldest_of w) (count_of w) o' n' w reply w₃
      joined_loaded =
          subst₂ (λ (a b : ℕ). Joined (arrival t s (grade_of g) ps) a b o' n' w reply w₃) (oldest_loaded loaded life-is adv log r)
          (count_loaded loaded life-is adv log r) j

      pub message_accepted : Accepted log (message t s g ps) w reply w₃
      message_accepted =
          let k = joined_loaded in
          let low : o < slots = loaded.oldest_below in
          plain_taken log (message t s g ps) w r v ok (λ i m. refl) moved_on
          (roomy_shows w log t r.sound (moved_below low adv.moved) (places_loaded loaded life-is adv log r late)
          (subst (λ (c : ℕ). Roomy c clock₁ o₁ n₁ clock₂ o' n') capacity-is roomy))
          (joined w (oldest_of w) (count_of w) o' n' r.oldest_below r.count_below moved_on t s g ps k.written k.moved room k.message k.cursor)
          0 k.followed (λ q. (unfold accept in refl, refl)) reply refl k.departures

-- there is room for one more
pub room_left : {capacity clock o n clock' o' n' : ℕ} {x : Type 0} → (capacity ≤ most_messages) × x → Roomy capacity clock o n clock' o' n' → n < slots
    → n' < most_messages
room_left {capacity} {clock} {o} {n} {clock'} {o'} {n'} cap r h = go (ltb n capacity) refl (ltb 0 n) refl
  where
    go : (b : Bool) → ltb n capacity ≡ b → (z : Bool) → ltb 0 n ≡ z → n' < most_messages
    go true e z y = let l = ltb-true n capacity e in let k = r.room l in let c = cap.0 in omega arith
    go false e true y = let k = r.full (ltb-false n capacity e) (ltb-true 0 n y) in omega arith
    go false e false y = let k = ltb-false 0 n y in let m = r.moved.count_most in omega arith

-- 8: "serial in force at the frame's time"
pub known : {s : List ℕ} {t serial life clock o n clock₁ o₁ n₁ : ℕ} {b : Bool} (g : Form) (ps : List Pair)
    → Loaded (words s) clock o n → life ≡ get_or (words s) life_at 0 → Advanced (words s) life o n t clock₁ o₁ n₁ → clock ≤ t
    → b ≡ holds_serial serial (window (words s) o₁ n₁) → b ≡ true → Did (message t serial g ps) s (Err Serial) s
known {s} {t} {serial} {life} {clock} {o} {n} {clock₁} {o₁} {n₁} {b} g ps loaded life-is adv h e y =
    refused_by (message t serial g ps)
    (λ log rep v.
    let l : log.clock ≤ t = let k = rep.clock in let m = loaded.clock_is in omega arith in
    message_judged t serial life clock o n g ps (words s) loaded life-is clock₁ o₁ n₁ adv log rep l v b e ∙ ap (λ (x : Bool). cond {A = ℕ} x 8 0) y)

-- a message taken in
pub message_done : {s s' : List ℕ} {r : Reply} {t serial life clock o n clock₁ o₁ n₁ capacity clock₂ o' n' : ℕ} {b : Bool} {u : Urgency} {ps : List Pair}
    (g : Form) → grade_of g ≡ u → Loaded (words s) clock o n → life ≡ get_or (words s) life_at 0 → Advanced (words s) life o n t clock₁ o₁ n₁ → clock ≤ t
    → b ≡ holds_serial serial (window (words s) o₁ n₁) → b ≡ false
    → (capacity ≤ most_messages) × (get_or (words s) capacity_at 0 ≤ most_messages → capacity ≡ get_or (words s) capacity_at 0)
    → Roomy capacity clock₁ o₁ n₁ clock₂ o' n'
    → Joined (arrival t serial u ps) o n o' n' (words s) r (words s') → n' < most_messages → Did (message t serial g ps) s (Ok r) s'
message_done {s} {s'} {r} {t} {serial} {life} {clock} {o} {n} {clock₁} {o₁} {n₁} {capacity} {clock₂} {o'} {n'} {b} {u} {ps} g grade loaded life-is adv h e y
    cap roomy j room = record {
      unchanged = tt;
      right = λ log rep v.
          let l : log.clock ≤ t = let k = rep.clock in let m = loaded.clock_is in omega arith in
          let c : capacity ≡ log.N = let k = rep.capacity in let m = rep.capacity_most in cap.1 (omega arith) ∙ k in
          let ok : judge_frame log (message t serial g ps) ≡ 0 =
          message_judged t serial life clock o n g ps (words s) loaded life-is clock₁ o₁ n₁ adv log rep l v b e ∙ ap (λ (x : Bool). cond {A = ℕ} x 8 0) y in (
            sym ok,
            message_accepted t serial life clock o n g ps (words s) loaded life-is clock₁ o₁ n₁ adv log rep l v capacity clock₂ o' n' c roomy r (words s')
                (subst (λ (x : Urgency). Joined (arrival t serial x ps) o n o' n' (words s) r (words s')) (sym grade) j) ok room,
          );
    }

-- ---- a cancellation

module _ {t life clock o n clock' o' n' : ℕ} {w : List ℕ} (s : ℕ) (loaded : Loaded w clock o n) (life-is : life ≡ get_or w life_at 0)
    (adv : Advanced w life o n t clock' o' n') where
  below : o' < slots
  below = moved_below loaded.oldest_below adv.moved

  -- what was sought is there, or no message in the window has the serial
  sought_none : seek w s (ring o' n') ≡ slots → holds_serial s (window w o' n') ≡ false
  sought_none h =
      ⊎_elim (λ p. p.1)
      (λ p. absurd (let l = (in_ring_lem o' n' (seek w s (ring o' n')) below (found_in p.0)).0 in omega arith))
      (seek_cases w s (ring o' n'))

  sought_found : {j : ℕ} → (seek w s (ring o' n') ≡ j) × (j < slots) → Found w s (ring o' n') j × (holds_serial s (window w o' n') ≡ true)
  sought_found h =
      ⊎_elim (λ p. absurd (omega (arith, p.0, h.0))) (λ p. (subst (Found w s (ring o' n')) h.0 p.0, p.1)) (seek_cases w s (ring o' n'))

  cancel_judged : (log : Log) → Represents log w → log.clock ≤ t → Valid (cancel t s) → (b : Bool) → holds_serial s (window w o' n') ≡ b
      → judge_frame log (cancel t s) ≡ cond b 0 13
  cancel_judged log r late v b e =
      judged_kind log (cancel t s) late
      ∙ ap (λ (c : Bool). cond {A = ℕ} c 0 13) (sym (serial_in_force log t s r.sound v.1 (places_loaded loaded life-is adv log r late)) ∙ e)

  cancel_accepted : (log : Log) (r : Represents log w) (late : log.clock ≤ t) (v : Valid (cancel t s)) (ok : judge_frame log (cancel t s) ≡ 0)
      → {j : ℕ} → (seek w s (ring o' n') ≡ j) × (j < slots) → {went reply : Reply} {w₃ : List ℕ} → Departed clock' j s o n o' n' w went w₃
      → reply.marks ≡ went.marks → reply.departures ≡ went.departures + 1
      → Accepted log (cancel t s) w reply w₃
  cancel_accepted log r late v ok {j} h {went} {reply} {w₃} d em ed =
      let moved = moved_loaded loaded life-is adv log r in
      let e = departed_loaded loaded life-is adv log r d in
      let left = places_loaded loaded life-is adv log r late in
      let p = ticked w (oldest_of w) (count_of w) o' n' r.oldest_below r.count_below moved (cancel t s) refl e.moved e.cursor in
      let g : Followed e.moved (moving (oldest_of w) (count_of w) o' n' (n' + 0) slots j s) went.marks w₃ =
      subst (λ (c : ℕ). Followed e.moved (moving (oldest_of w) (count_of w) o' n' c slots j s) went.marks w₃) (sym (add-zero n')) e.followed in
      let found = (sought_found h).0 in
      taken_in log (cancel t s) w r v ok below p g
      (cancel_change log w r t s v late ok moved left found p g.silenced) (cancel_places log w r t s v late ok moved left found p g.silenced)
      (λ q. (unfold accept in refl, refl)) reply em
      (ed ∙ ap (λ (c : ℕ). c + 1) e.departures ∙ cancel_count log w r t s v late ok moved left found p g.silenced)

-- 13: "serial not in force at the frame's time"
pub unknown : {state : List ℕ} {t s life clock o n clock' o' n' : ℕ} → Loaded (words state) clock o n → life ≡ get_or (words state) life_at 0
    → Advanced (words state) life o n t clock' o' n' → clock ≤ t → seek (words state) s (ring o' n') ≡ slots
    → Did (cancel t s) state (Err NotInForce) state
unknown {t = t} {s} loaded life-is adv h none =
    refused_by (cancel t s)
    (λ log r v.
    let l : log.clock ≤ t = let k = r.clock in let m = loaded.clock_is in omega arith in
    cancel_judged s loaded life-is adv log r l v false (sought_none s loaded life-is adv none))

-- a message cancelled
pub cancel_done : {state state' : List ℕ} {went reply : Reply} {t s life clock o n clock' o' n' j : ℕ} → Loaded (words state) clock o n
    → life ≡ get_or (words state) life_at 0 → Advanced (words state) life o n t clock' o' n' → clock ≤ t
    → (seek (words state) s (ring o' n') ≡ j) × (j < slots) → Departed clock' j s o n o' n' (words state) went (words state') → reply.marks ≡ went.marks
    → reply.departures ≡ went.departures + 1 → Did (cancel t s) state (Ok reply) state'
cancel_done {t = t} {s} loaded life-is adv h there d em ed = record {
  unchanged = tt;
  right = λ log r v.
      let l : log.clock ≤ t = let k = r.clock in let m = loaded.clock_is in omega arith in
      let ok : judge_frame log (cancel t s) ≡ 0 = cancel_judged s loaded life-is adv log r l v true (sought_found s loaded life-is adv there).1 in
      (sym ok, cancel_accepted s loaded life-is adv log r l v ok there d em ed);
}
