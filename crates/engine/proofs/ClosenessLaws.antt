-- A closeness: what it answers by its lengths and its serial, and where the memory holds a log. Assumes nothing.
use Prim.Native.Nat.{ℕ, ◌≤◌, ◌<◌, ◌^◌}
use native.Mathlib.Omega.{arith}
use mathlib.Core.Path.{◌≡◌, refl, sym, ap, ◌∙◌, subst}
use mathlib.Core.Logic.{◌⊎◌, inl, inr, ⊎_elim}
use mathlib.Core.Bool.{Bool, true, false, cond, true≢false}
use mathlib.Core.List.{List, [], ◌∷◌, map}
use mathlib.Core.Option.{Option, none, some}
use lib.ListN.{length, get_or, drop}
use lib.Dec.{eqb}
use borrow.Author.Tests.{eq-eqb, ne_eqb, eqb-true}
use Rattle.std.specs.Prelude.{Ok, Err}
use Rattle.paper.specs.declared.refusal.Refusal.{Refusal}
use Rattle.paper.specs.declared.refusal.Refusal.TheVariants.{NotInForce, NotInUse}
use Rattle.paper.specs.Refusal.{number_of}
use Rattle.paper.specs.Frame.{Pairs, count_width, most_pairs, serial_width, numbers}
use Rattle.paper.specs.Window.{Message}
use Rattle.paper.specs.Rank as Rank
use Rattle.paper.specs.Layout.{state_length, slots}
use Rattle.paper.specs.Sort.{select}
use Rattle.paper.specs.Log.{Log, in_force_now, filled_now, has_serial, query_at, is_in_use, seen}
use Rattle.paper.specs.Closeness.{pairs_of, judge_closeness, closeness_in}
use Rattle.paper.specs.Sound.{Messages}
use Rattle.paper.proofs.Tests.{by_bool}
use Rattle.paper.proofs.LogLaws.{filled_valid, in_force_valid}
use Rattle.paper.proofs.WindowLaws.{active, in_force_filled}
use Rattle.memory.specs.Words.{words}
use Rattle.window.specs.Slot.{Slot, slot, stored, silenced, held, ring, seek, holds_serial}
use Rattle.window.specs.Cursor.{Loaded}
use Rattle.window.proofs.WalkLaws.{seek_cases, found_in}
use Rattle.window.proofs.LogLaws.{holds_serial_lem, held_serial}
use Rattle.candidates.specs.declared.query.Query.{Query}
use Rattle.candidates.proofs.MatchLaws.{in_ring_lem}
use Rattle.query.specs.Record.{HoldsAt}
use Rattle.query.specs.Post.{LoadedQuery}
use Rattle.closeness.specs.declared.Closeness.{Closeness}
use Rattle.closeness.specs.Post as close
use Rattle.engine.specs.Told.{told_closeness}
use Rattle.engine.specs.Represents.{Represents, oldest_of, count_of}
use Rattle.engine.specs.Inner.{registered_in}
use Rattle.engine.specs.Post.{close_of, ClosenessPost}
use Rattle.engine.proofs.ToldLaws.{not_0}
use Rattle.engine.proofs.RepresentsLaws.{query_terms, registered_below, in_use}

-- ---- the message with a serial

-- no message has one that a frame can't say
none_above : (s : ℕ) (ms : List Message) → Messages ms → 2 ^ serial_width ≤ s → has_serial s ms ≡ false
unfolding has_serial
none_above s [] v h = refl
none_above s (m ∷ ms) v h = rw (ne_eqb m.serial s (λ e. omega (arith, v.0)), none_above s ms v.2 h)

-- the slot found holds the message in force that has the serial
record Sought (x : Slot) (s : ℕ) (ms : List Message) : Type 0 where
  message : Message
  holds : x ≡ stored message
  valid : Pairs count_width most_pairs message.pairs
  there : has_serial s ms ≡ true
  pairs : pairs_of s ms ≡ message.pairs

module _ (w : List ℕ) (s : ℕ) (small : s < 2 ^ serial_width) where
  sought : (js : List ℕ) (ms : List Message) → map (slot w) js ≡ map held ms → Messages ms → holds_serial s (map (slot w) js) ≡ true
      → Sought (slot w (seek w s js)) s (select active ms)
  unfolding seek holds_serial has_serial pairs_of select stored
  sought [] ms e v h = absurd (true≢false (sym h))
  sought (j ∷ js) [] e v h = absurd (let l = ap length e in omega arith)
  sought (j ∷ js) (m ∷ ms) e v h = by_bool (eqb (slot w j).serial s) here (λ q. later q (sought js ms (ap (drop 1) e) v.2 (rw q at h)))
    where
      first : slot w j ≡ held m
      first = ap (λ (xs : List Slot). get_or xs 0 (slot w j)) e

      is_stored : m.cancelled ≡ false → held m ≡ stored m
      is_stored c = ap (λ (b : Bool). cond b (silenced (stored m)) (stored m)) c

      here : eqb (slot w j).serial s ≡ true → Sought (slot w (seek w s (j ∷ js))) s (select active (m ∷ ms))
      here q =
          let k = held_serial s small m v.1.least_one (ap (λ (x : Slot). x.serial) (sym first) ∙ eqb-true (slot w j).serial s q) in
          let t = eq-eqb m.serial s k.1 in
          record {
            message = m;
            holds = rw q (first ∙ is_stored k.0);
            valid = v.1;
            there = rw (k.0, t) refl;
            pairs = rw (k.0, t) refl;
          }

      later : eqb (slot w j).serial s ≡ false → Sought (slot w (seek w s js)) s (select active ms)
          → Sought (slot w (seek w s (j ∷ js))) s (select active (m ∷ ms))
      later q ih =
          by_bool m.cancelled (λ c. rw (q, c) ih)
          (λ c.
          let t : eqb m.serial s ≡ false = sym (ap (λ (x : Slot). eqb x.serial s) (first ∙ is_stored c)) ∙ q in
          record { message = ih.message; holds = rw q ih.holds; valid = ih.valid; there = rw (c, t) ih.there; pairs = rw (c, t) ih.pairs })

-- ---- refused

module _ (s : List ℕ) (serial n : ℕ) where
  module _ (long : length s ≡ state_length) where
    -- by whether the serial is in force and the number in use
    judged : (log : Log) {b d : Bool} → has_serial serial (in_force_now log) ≡ b → is_in_use (query_at log n) ≡ d
        → judge_closeness 0 log (length s) 0 serial n ≡ cond b (cond d 0 10) 13
    unfolding judge_closeness
    judged log e f = rw (eq-eqb (length s) state_length long, e, f) refl

    refused : (x : Refusal) → (number_of x ≡ 13) ⊎ (number_of x ≡ 10) → (2 ^ serial_width ≤ serial → number_of x ≡ 13)
        → ((log : Log) → Represents log (words s) → judge_closeness 0 log (length s) 0 serial n ≡ number_of x)
        → ClosenessPost s serial n (told_closeness (Err x))
    unfolding closeness_in
    refused x either above by = record {
      not_lent = λ h. absurd (h long);
      no_serial = λ _ h. above h;
      no_number = λ _ _. either;
      most = omega arith;
      refused = λ _. (refl, refl);
      right = λ log r _. let j = by log r in (sym j, rw (j, not_0 x) refl);
    }

    -- no message in force has the serial
    unknown : ((log : Log) → Represents log (words s) → has_serial serial (in_force_now log) ≡ false)
        → ClosenessPost s serial n (told_closeness (Err NotInForce))
    unknown absent = refused NotInForce (inl refl) (λ _. refl) (λ log r. judged log (absent log r) refl)

    -- it is none that a frame could say
    pub closeness_above : 2 ^ serial_width ≤ serial → ClosenessPost s serial n (told_closeness (Err NotInForce))
    closeness_above h = unknown (λ log r. none_above serial (in_force_now log) (in_force_valid log r.sound) h)

    -- ---- looked for in the window

    module _ (small : serial < 2 ^ serial_width) {clock o c : ℕ} (l : Loaded (words s) clock o c) where
      module _ (log : Log) (r : Represents log (words s)) where
        shows : map (slot (words s)) (ring o c) ≡ map held (filled_now log)
        shows = rw (l.oldest_is r.oldest_below, l.count_is r.count_below) r.shows

        in_force_is : in_force_now log ≡ select active (filled_now log)
        in_force_is = in_force_filled log.N log.T log.clock log.messages

        -- whether a slot has it is whether a message in force has it
        has_it : holds_serial serial (map (slot (words s)) (ring o c)) ≡ has_serial serial (in_force_now log)
        has_it = rw (shows, in_force_is) (holds_serial_lem serial small (filled_now log) (filled_valid log log.clock r.sound))

      -- no slot has it
      pub closeness_unknown : seek (words s) serial (ring o c) ≡ slots → ClosenessPost s serial n (told_closeness (Err NotInForce))
      closeness_unknown h =
          unknown
          (λ log r.
          ⊎_elim (λ p. sym (has_it log r) ∙ p.1)
          (λ p. let low = (in_ring_lem o c (seek (words s) serial (ring o c)) l.oldest_below (found_in p.0)).0 in absurd (omega arith))
          (seek_cases (words s) serial (ring o c)))

      -- a slot has it
      module _ {j : ℕ} (is : (seek (words s) serial (ring o c) ≡ j) × (j < slots)) where
        there : (log : Log) → Represents log (words s) → Sought (slot (words s) j) serial (in_force_now log)
        there log r =
            ⊎_elim (λ p. absurd (omega (arith, p.0, is.0, is.1)))
            (λ p.
            rw (← is.0, in_force_is log r)
            (sought (words s) serial small (ring o c) (filled_now log) (shows log r) (filled_valid log log.clock r.sound) p.1))
            (seek_cases (words s) serial (ring o c))

        module _ {b : Bool} (test : registered_in (words s) n ≡ b) where
          -- and no query is registered
          pub closeness_unused : b ≡ false → ClosenessPost s serial n (told_closeness (Err NotInUse))
          closeness_unused e =
              refused NotInUse (inr refl) (λ h. absurd (omega arith)) (λ log r. judged log (there log r).there (in_use log (words s) n r ∙ test ∙ e))

          module _ (e : b ≡ true) {q : Query} {x : Closeness} (loaded : LoadedQuery (words s) n q) (compared : close.SlotCloseness (slot (words s) j) q x) where
            within : n < numbers
            within = registered_below (words s) n (test ∙ e)

            exactly : (log : Log) → Represents log (words s) → (y : Option Rank.Query) → query_at log n ≡ y → is_in_use (query_at log n) ≡ true
                → HoldsAt (words s) n (oldest_of (words s)) (count_of (words s)) (seen log) y
                → (0 ≡ judge_closeness 0 log (length s) 0 serial n) × (close_of (told_closeness (Ok x)) ≡ closeness_in 0 log (length s) 0 serial n)
            unfolding closeness_in
            exactly log r none at u k = absurd (true≢false (sym u ∙ ap is_in_use at))
            exactly log r (some query) at u k =
                let m = there log r in
                let ok = judged log m.there u in
                let t = query_terms log.queries n query r.sound.queries at in
                let right = compared.right m.message query m.holds m.valid t (loaded.is query t k.says) in
                (sym ok, rw (ok, at, m.pairs) right)

            pub closeness_right : ClosenessPost s serial n (told_closeness (Ok x))
            closeness_right = record {
              not_lent = λ h. absurd (h long);
              no_serial = λ _ h. absurd (omega arith);
              no_number = λ _ h. absurd (omega (arith, within));
              most = compared.most;
              refused = λ h. absurd (h refl);
              right = λ log r _.
                  exactly log r (query_at log n) refl (in_use log (words s) n r ∙ test ∙ e) (r.records n within);
            }
