-- An accepted frame: how the window of a log changes, and that memory then holds the log after it. Assumes nothing.
use Prim.Native.Nat.{ℕ, ◌+◌, ◌-◌, ◌%◌, ◌≤◌, ◌<◌}
use native.Mathlib.Nat.{le_refl}
use native.Mathlib.Omega.{arith}
use mathlib.Core.Path.{◌≡◌, refl, sym, ap, ap₂, ◌∙◌, subst, subst₂}
use mathlib.Core.Bool.{Bool, true, false, ◌||◌}
use mathlib.Core.Logic.{inl}
use mathlib.Core.List.{List, [], ◌∷◌, ◌++◌, map, map-append, append-nil, append_cancel_right}
use mathlib.Core.Option.{Option, none, some}
use lib.ListN.{length, get_or, length-map}
use lib.Dec.{eqb, ltb}
use borrow.Author.Tests.{le-ltb, ltb-true, ltb-false}
use Rattle.paper.specs.Frame.{Frame, Valid, numbers}
use Rattle.paper.specs.Frame.Frame.{message, tick, register, unregister, cancel}
use Rattle.paper.specs.Rank.{Query}
use Rattle.paper.specs.Window.{Message}
use Rattle.paper.specs.Layout.{slots, time_at, clock_at, oldest_at, count_at, record_at}
use Rattle.paper.specs.Log.{Log, query_at, in_force_now, filled_now, has_serial, time_of, judge_frame}
use Rattle.paper.specs.Log.{arrivals, cancels, accept, departs, seen, stays, moved_for}
use Rattle.paper.specs.Order.{In, Ordered, Split}
use Rattle.paper.specs.Sort.{select}
use Rattle.paper.specs.Sound.{Messages, Terms}
use Rattle.paper.specs.Demand3.{marked, bitmap, names}
use Rattle.paper.proofs.LogLaws.{time_from_clock, in_force_before, in_force_after, accept_sound, in_force_valid, arrivals_valid, messages_split, filled_valid}
use Rattle.paper.proofs.LogLaws.{vacates, keeps, places_before, departs_places, stays_places, places_after}
use Rattle.paper.proofs.SortLaws.{split_first, split_apart}
use Rattle.paper.proofs.WindowLaws.{active}
use Rattle.memory.specs.Keeps.{Keeps}
use Rattle.memory.proofs.KeepsLaws.{keeps_refl}
use Rattle.rank.specs.Listing.{has_number}
use Rattle.window.specs.Slot.{Slot, slot, stored, held, ring, window, live, holds_serial}
use Rattle.window.specs.Cursor.{Moved}
use Rattle.window.proofs.RingLaws.{moved_below, moved_parts}
use Rattle.window.proofs.SlotLaws.{window_kept, outside_kept, cancelled_own, live_append, live_in}
use Rattle.window.proofs.LogLaws.{holds_serial_lem, live_shows, live_all}
use Rattle.candidates.specs.Flags.{in_ring}
use Rattle.candidates.proofs.MatchLaws.{ring_test, ring_apart}
use Rattle.query.specs.Record.{HeldAt, HoldsAt, SameRecord}
use Rattle.query.specs.Post.{Change, arriving}
use Rattle.query.proofs.RecordLaws.{thresholds_same, held_at, holds_at_same}
use Rattle.engine.specs.declared.Reply.{Reply}
use Rattle.engine.specs.Represents.{oldest_of, count_of, Represents, keeping}
use Rattle.engine.specs.Inner.{Silenced, Followed, moving, reached_in, Accepted}
use Rattle.engine.proofs.MarkLaws.{bitmap_same}
use Rattle.engine.proofs.RepresentsLaws.{query_terms, reached_by_lem}

-- the slot after a window isn't in it
pub outside : (o n : ℕ) → o < slots → n < slots → in_ring o n ((o + n) % slots) ≡ false
outside o n h k =
    let e : ((o + n) % slots + slots - o) % slots ≡ n = omega arith in
    sym (ring_test o n ((o + n) % slots) (omega arith)) ∙ le-ltb (((o + n) % slots + slots - o) % slots) n (omega arith)

-- no slot both leaves and keeps its place
pub parts_apart : {o n o' n' : ℕ} → o < slots → n < slots → Moved o n o' n' → (j : ℕ) → In j (ring o (n - n')) → In j (ring o' n') → ⊥
parts_apart {o} {n} {o'} {n'} low few moved j gone stay =
    split_apart j (split_first (ring o (n - n')) (ring o' n'))
    (subst (Ordered (λ i k. i ≡ k → ⊥)) (moved_parts low moved) (ring_apart o n low few)) gone stay

-- a message silenced leaves header and records alone
pub silenced_keeps : {j : ℕ} {w w' : List ℕ} → Silenced j w w' → Keeps (time_at 0) (record_at 0) w w'
silenced_keeps {j} {w} {w'} s = go (ltb j slots) refl
  where
    go : (b : Bool) → ltb j slots ≡ b → Keeps (time_at 0) (record_at 0) w w'
    go true e = let l = ltb-true j slots e in outside_kept (s.one l).keeps (cancelled_own j) l
    go false e = subst (Keeps (time_at 0) (record_at 0) w) (sym (s.none (ltb-false j slots e))) (keeps_refl (time_at 0) (record_at 0) w)

-- The memory once the header and an arriving message are written and no record is updated yet.
pub record Prepared (f : Frame) (w : List ℕ) (o n o' n' newest : ℕ) (w₂ : List ℕ) : Type 0 where
  pub long : length w₂ ≡ length w
  pub capacity : get_or w₂ 0 0 ≡ get_or w 0 0
  pub life : get_or w₂ 1 0 ≡ get_or w 1 0
  pub clock : get_or w₂ clock_at 0 ≡ time_of f
  pub oldest : get_or w₂ oldest_at 0 ≡ o'
  pub count : get_or w₂ count_at 0 ≡ n' + length (arrivals f)
  pub small : n' + length (arrivals f) < slots
  pub records : (q : ℕ) → q < numbers → SameRecord w w₂ q
  pub slots_same : (j : ℕ) → j < slots → in_ring o n j ≡ true → slot w₂ j ≡ slot w j
  pub gone_same : window w₂ o (n - n') ≡ window w o (n - n')
  pub left_same : window w₂ o' n' ≡ window w o' n'
  pub come : map (slot w₂) (arriving newest) ≡ map stored (arrivals f)
  pub after : ring o' (n' + length (arrivals f)) ≡ ring o' n' ++ arriving newest

-- ---- memory holds the log after a frame, once the queries followed the change of its window

module _ (log : Log) (f : Frame) (w : List ℕ) (r : Represents log w) (v : Valid f) (ok : judge_frame log f ≡ 0)
    {o' n' newest cancelled serial marks : ℕ} {w₂ w₃ : List ℕ} (low : o' < slots) (p : Prepared f w (oldest_of w) (count_of w) o' n' newest w₂)
    (g : Followed w₂ (moving (oldest_of w) (count_of w) o' n' (n' + length (arrivals f)) newest cancelled serial) marks w₃)
    (change : Change w₂ g.silent (oldest_of w) (count_of w) (moving (oldest_of w) (count_of w) o' n' (n' + length (arrivals f)) newest cancelled serial)
    (in_force_now log) (departs log f) (stays log f) (arrivals f))
    (places : window g.silent o' (n' + length (arrivals f)) ≡ map held (filled_now (accept log f)))
    (stable : (q : ℕ) → (query_at (accept log f) q ≡ query_at log q) × (names f q ≡ false)) where
  quiet : Keeps (time_at 0) (record_at 0) w₂ g.silent
  quiet = silenced_keeps g.silenced

  terms : (q : ℕ) (y : Query) → query_at log q ≡ some y → Terms y
  terms q y e = query_terms log.queries q y r.sound.queries e

  same_record : (q : ℕ) → q < numbers → SameRecord w g.silent q
  same_record q h i l = quiet.above (record_at q + i) (omega arith) ∙ p.records q h i l

  -- the records are as they were
  before_holds : (q : ℕ) → q < numbers → HeldAt w₂ g.silent q (oldest_of w) (count_of w) (λ _. in_force_now log) (query_at log q)
  unfolding seen
  before_holds q h =
      held_at w₂ g.silent q quiet.long (λ i l. quiet.above (record_at q + i) (omega arith)) (oldest_of w) (count_of w) (seen log) (query_at log q) (terms q)
      (holds_at_same w w₂ q p.long (p.records q h) (oldest_of w) (count_of w) r.oldest_below p.slots_same (seen log) (query_at log q) (terms q) (r.records q h))

  -- the thresholds too
  reached_same : (q : ℕ) → q < numbers → (x : Option Query) → ((y : Query) → x ≡ some y → Terms y) → (ms : Query → List Message)
      → reached_in g.silent q x ms ≡ reached_in w q x ms
  reached_same q h none t ms = refl
  reached_same q h (some x) t ms = rw (thresholds_same w g.silent q (quiet.long ∙ p.long) (same_record q h) (length x.terms) (t x refl).terms.at_most)

  done : ((q : ℕ) → q < numbers → HoldsAt w₃ q o' (n' + length (arrivals f)) (λ _. stays log f ++ arrivals f) (query_at log q))
      × (marks ≡ bitmap (λ q. reached_in g.silent q (query_at log q) (moved_for log f)) numbers)
      × ((q : ℕ) → q < numbers → reached_in g.silent q (query_at log q) (moved_for log f) ≡ false → SameRecord g.silent w₃ q)
  unfolding moved_for
  done =
      g.passed.right w₂ (oldest_of w) (count_of w) (in_force_now log) (departs log f) (stays log f) (arrivals f) log.queries g.tables change
      r.sound.queries before_holds

  header : (i : ℕ) → i < time_at 0 → get_or w₃ i 0 ≡ get_or w₂ i 0
  header i h = g.passed.keeps.below i (omega arith) ∙ quiet.below i h

  holds_after : Represents (accept log f) w₃
  unfolding accept seen
  holds_after =
      let at : oldest_of w₃ ≡ o' = header oldest_at (omega arith) ∙ p.oldest in
      let many : count_of w₃ ≡ n' + length (arrivals f) = header count_at (omega arith) ∙ p.count in
      record {
        long = g.passed.keeps.long ∙ quiet.long ∙ p.long ∙ r.long;
        capacity = header 0 (omega arith) ∙ p.capacity ∙ r.capacity;
        life = header 1 (omega arith) ∙ p.life ∙ r.life;
        clock = header clock_at (omega arith) ∙ p.clock;
        capacity_most = r.capacity_most;
        oldest_below = omega arith;
        count_below = let c = p.small in omega arith;
        shows =
            ap₂ (window w₃) at many
            ∙ window_kept g.passed.keeps (inl (le_refl (record_at 0))) o' (n' + length (arrivals f)) low
            ∙ places;
        sound = accept_sound log f r.sound v ok;
        records = λ q h.
            subst₂ (λ (a b : ℕ). HoldsAt w₃ q a b (seen (accept log f)) (query_at (accept log f) q)) (sym at) (sym many)
            (subst₂ (λ (ms : List Message). HoldsAt w₃ q o' (n' + length (arrivals f)) (λ _. ms))
            (sym (in_force_after log f r.sound ok)) (sym (stable q).0) (done.0 q h));
      }

  -- a query is marked where the frame reaches it
  marks_are : (q : ℕ) → q < numbers → marked log (keeping w) f q ≡ reached_in g.silent q (query_at log q) (moved_for log f)
  unfolding marked
  marks_are q h = rw (stable q).1 (reached_by_lem log w q (moved_for log f) r h ∙ sym (reached_same q h (query_at log q) (terms q) (moved_for log f)))

  -- the frame is taken in
  pub taken_in : (reply : Reply) → reply.marks ≡ marks → reply.departures ≡ length (departs log f) → Accepted log f w reply w₃
  taken_in reply em ed = record {
    holds = holds_after;
    marks = em ∙ done.1 ∙ sym (bitmap_same (marked log (keeping w) f) (λ q. reached_in g.silent q (query_at log q) (moved_for log f)) numbers marks_are);
    departures = ed;
    untouched = λ q h e i l. done.2 q h (sym (marks_are q h) ∙ e) i l ∙ same_record q h i l;
  }

-- ---- the oldest leave their places

-- two halves of a list whose second halves agree
halves : (a b c d : List Slot) → a ++ b ≡ c ++ d → b ≡ d → a ≡ c
halves a b c d e f = append_cancel_right a c d (ap (λ (x : List Slot). a ++ x) (sym f) ∙ e)

-- numbers that are the serials of slots
pub numbers_held : (w js : List ℕ) (s : ℕ) → has_number s (map (λ j. (slot w j).serial) js) ≡ holds_serial s (map (slot w) js)
unfolding has_number holds_serial
numbers_held w [] s = refl
numbers_held w (j ∷ js) s = ap (λ (b : Bool). eqb (slot w j).serial s || b) (numbers_held w js s)

module _ (log : Log) (w : List ℕ) (r : Represents log w) (t more : ℕ) (late : log.clock ≤ t) {o' n' : ℕ} (moved : Moved (oldest_of w) (count_of w) o' n')
    (left : window w o' n' ≡ map held (keeps log t more)) where
  -- those that leave are in the first slots
  pub vacated : window w (oldest_of w) (count_of w - n') ≡ map held (vacates log t more)
  vacated =
      halves (window w (oldest_of w) (count_of w - n')) (window w o' n') (map held (vacates log t more)) (map held (keeps log t more))
      (sym (map-append (slot w) (ring (oldest_of w) (count_of w - n')) (ring o' n'))
      ∙ ap (map (slot w)) (sym (moved_parts r.oldest_below moved))
      ∙ r.shows
      ∙ ap (map held) (places_before log t more r.sound late)
      ∙ map-append held (vacates log t more) (keeps log t more))
      left

  pub both_valid : Messages (vacates log t more) × Messages (keeps log t more)
  both_valid =
      messages_split (subst (λ (l : List Message). Split l (vacates log t more) (keeps log t more)) (sym (places_before log t more r.sound late))
      (split_first (vacates log t more) (keeps log t more))) (filled_valid log log.clock r.sound)

  -- as many as leave in force
  pub vacated_count : length (live w (ring (oldest_of w) (count_of w - n'))) ≡ length (select active (vacates log t more))
  vacated_count =
      sym (length-map (live w (ring (oldest_of w) (count_of w - n'))) (slot w))
      ∙ ap length (live_shows w (ring (oldest_of w) (count_of w - n')) (vacates log t more) both_valid.0 vacated)
      ∙ length-map (select active (vacates log t more)) stored

-- ---- a frame that cancels nothing

arrivals_held : (f : Frame) → map held (arrivals f) ≡ map stored (arrivals f)
arrivals_held (message t s g ps) = refl
arrivals_held (tick t) = refl
arrivals_held (register t n k ps) = refl
arrivals_held (unregister t n) = refl
arrivals_held (cancel t s) = refl

module _ (log : Log) (f : Frame) (w : List ℕ) (r : Represents log w) (v : Valid f) (ok : judge_frame log f ≡ 0)
    (off : (j : ℕ) (m : Message) → cancels log f j m ≡ false)
    {o' n' newest : ℕ} {w₂ : List ℕ} (moved : Moved (oldest_of w) (count_of w) o' n')
    (left : window w o' n' ≡ map held (keeps log (time_of f) (length (arrivals f)))) (p : Prepared f w (oldest_of w) (count_of w) o' n' newest w₂) where
  abbrev more : ℕ
  more = length (arrivals f)

  late : log.clock ≤ time_of f
  late = time_from_clock log f r.sound ok

  abbrev first : List ℕ
  first = ring (oldest_of w) (count_of w - n')

  gone_places : map (slot w₂) first ≡ map held (vacates log (time_of f) more)
  gone_places = p.gone_same ∙ vacated log w r (time_of f) more late moved left

  left_places : map (slot w₂) (ring o' n') ≡ map held (keeps log (time_of f) more)
  left_places = p.left_same ∙ left

  valid : Messages (vacates log (time_of f) more) × Messages (keeps log (time_of f) more)
  valid = both_valid log w r (time_of f) more late moved left

  pub plain_change : (serial : ℕ)
      → Change w₂ w₂ (oldest_of w) (count_of w) (moving (oldest_of w) (count_of w) o' n' (n' + more) newest slots serial)
      (in_force_now log) (departs log f) (stays log f) (arrivals f)
  plain_change serial = record {
    first_below = r.oldest_below;
    then_below = moved_below r.oldest_below moved;
    stay_slots = live w₂ (ring o' n');
    before =
        subst₂ (λ (all gone : List ℕ). Split all gone (live w₂ (ring o' n')))
        (sym (ap (live w₂) (moved_parts r.oldest_below moved) ∙ live_append w₂ first (ring o' n'))) (ap (live w₂) (sym (append-nil first)))
        (split_first (live w₂ first) (live w₂ (ring o' n')));
    after =
        ap (live w₂) p.after
        ∙ live_append w₂ (ring o' n') (arriving newest)
        ∙ ap (λ (js : List ℕ). live w₂ (ring o' n') ++ js) (live_all w₂ (arriving newest) (arrivals f) (arrivals_valid f v) p.come);
    same = λ j i. refl;
    apart = λ j i k. parts_apart r.oldest_below r.count_below moved j (subst (In j) (append-nil first) i) (live_in w₂ (ring o' n') j k).0;
    split = in_force_before log f r.sound ok;
    gone =
        ap (λ (js : List ℕ). map (slot w₂) (live w₂ js)) (append-nil first)
        ∙ live_shows w₂ first (vacates log (time_of f) more) valid.0 gone_places
        ∙ ap (map stored) (sym (departs_places log f off r.sound ok));
    stay = live_shows w₂ (ring o' n') (keeps log (time_of f) more) valid.1 left_places ∙ ap (map stored) (sym (stays_places log f off r.sound ok));
    come = p.come;
    serials = λ s h.
        ap (has_number s) (append-nil (map (λ j. (slot w₂ j).serial) first))
        ∙ numbers_held w₂ first s
        ∙ ap (holds_serial s) gone_places
        ∙ holds_serial_lem s h (vacates log (time_of f) more) valid.0
        ∙ ap (has_serial s) (sym (departs_places log f off r.sound ok));
    distinct = r.sound.distinct;
    valid = in_force_valid log r.sound;
    valid_new = arrivals_valid f v;
  }

  -- the window after it
  pub plain_places : window w₂ o' (n' + more) ≡ map held (filled_now (accept log f))
  plain_places =
      ap (map (slot w₂)) p.after
      ∙ map-append (slot w₂) (ring o' n') (arriving newest)
      ∙ ap₂ ◌++◌ left_places (p.come ∙ sym (arrivals_held f))
      ∙ sym (map-append held (keeps log (time_of f) more) (arrivals f))
      ∙ ap (map held) (sym (places_after log f off r.sound ok))

  pub plain_count : length (live w first) ≡ length (departs log f)
  plain_count = vacated_count log w r (time_of f) more late moved left ∙ ap length (sym (departs_places log f off r.sound ok))

  -- the frame is taken in
  pub plain_taken : (serial : ℕ) {marks : ℕ} {w₃ : List ℕ}
      → Followed w₂ (moving (oldest_of w) (count_of w) o' n' (n' + more) newest slots serial) marks w₃
      → ((q : ℕ) → (query_at (accept log f) q ≡ query_at log q) × (names f q ≡ false))
      → (reply : Reply) → reply.marks ≡ marks → reply.departures ≡ length (live w first) → Accepted log f w reply w₃
  plain_taken serial g stable reply em ed =
      let same : g.silent ≡ w₂ = g.silenced.none (le_refl slots) in
      taken_in log f w r v ok (moved_below r.oldest_below moved) p g
      (subst (λ (x : List ℕ). Change w₂ x (oldest_of w) (count_of w) (moving (oldest_of w) (count_of w) o' n' (n' + more) newest slots serial)
      (in_force_now log) (departs log f) (stays log f) (arrivals f)) (sym same) (plain_change serial))
      (subst (λ (x : List ℕ). window x o' (n' + more) ≡ map held (filled_now (accept log f))) (sym same) plain_places)
      stable reply em (ed ∙ plain_count)
