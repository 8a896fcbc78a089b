-- Every log that is fed from a start is sound, and how a frame changes what is in force. Assumes nothing.
use Prim.Native.Nat.{ℕ, zero, suc, ◌≤◌, ◌<◌, ◌^◌}
use native.Mathlib.Nat.{le_trans, le_refl}
use native.Mathlib.Omega.{arith}
use mathlib.Core.Path.{◌≡◌, refl, sym, ap, ◌∙◌, subst}
use mathlib.Core.Bool.{Bool, true, false}
use mathlib.Core.List.{List, [], ◌∷◌, ◌++◌, map, append-nil}
use mathlib.Core.Option.{Option, none, some}
use lib.ListN.{length, set, replicate, length-set}
use lib.Dec.{eqb, ltb}
use borrow.Author.Tests.{ltb-false, eqb-true, eqb-false, ne_eqb}
use Rattle.paper.proofs.Tests.{or_false, not_refused, by_bool}
use Rattle.paper.specs.Frame.{Pair, Form, Frame, Shape, Valid, grade_of, shape, numbers}
use Rattle.paper.specs.Frame.Frame.{message, tick, register, unregister, cancel}
use Rattle.paper.specs.Frame.Shape.{refused, accepted}
use Rattle.paper.specs.Sort.{select}
use Rattle.paper.specs.Window.{Message, arrival, filling, filled, standing, in_force, noting}
use Rattle.paper.specs.Order.{Split}
use Rattle.paper.specs.Order.Split.{empty, goes, remains}
use Rattle.paper.specs.Rank.{Query}
use Rattle.paper.specs.Log.{
  Log,
  Call,
  fresh,
  in_force_now,
  in_force_at,
  filled_now,
  filled_at,
  has_serial,
  time_of,
  judge_kind,
  judge_frame,
  judge_shape,
  lent,
  judge,
}
use Rattle.paper.specs.Log.{arrivals, cancels, queries_after, accept, accept_shape, after, replay, departs, stays, seen, moved_for}
use Rattle.paper.specs.Sound.{From, Chronological, Distinct, Messages, Terms, Queries, Sound}
use Rattle.paper.proofs.FrameLaws.{shape_valid, form_most}
use Rattle.paper.proofs.WindowLaws.{
  active,
  filling_true,
  staying,
  staying_none,
  filled_append,
  vacating,
  vacating_staying,
  departing_remaining,
  remaining_staying,
  departing_vacating,
}
use Rattle.paper.proofs.WindowLaws.{in_force_filled, in_force_noting, named, unnamed, withdrawing, filled_noting, remaining_unnamed, departing_named}

-- ---- times

from_append : (x : ℕ) (l new : List Message) → From x l → From x new → From x (l ++ new)
from_append x [] new f g = g
from_append x (m ∷ l) new f g = (f.0, from_append x l new f.1 g)

from_earlier : (x y : ℕ) (l : List Message) → From y l → x ≤ y → From x l
from_earlier x y [] f h = tt
from_earlier x y (m ∷ l) f h = (omega arith, from_earlier x y l f.1 h)

-- the times of messages noted as cancelled are what they were
module _ (off : ℕ → Message → Bool) where
  from_noting : (x : ℕ) (l : List Message) → From x l → From x (noting off l)
  unfolding noting
  from_noting x [] f = tt
  from_noting x (m ∷ l) f = (by_bool (off (length l) m) (λ e. rw e f.0) (λ e. rw e f.0), from_noting x l f.1)

  ordered_noting : (c : ℕ) (l : List Message) → Chronological c l → Chronological c (noting off l)
  unfolding noting
  ordered_noting c [] o = tt
  ordered_noting c (m ∷ l) o =
      let rest = from_noting m.time l o.1 in
      let ih = ordered_noting c l o.2 in
      by_bool (off (length l) m) (λ e. rw e (o.0, rest, ih)) (λ e. rw e (o.0, rest, ih))

ordered_append : (c t : ℕ) (l new : List Message) → Chronological c l → c ≤ t → From c new → Chronological t new → Chronological t (l ++ new)
ordered_append c t [] new o h f g = g
ordered_append c t (m ∷ l) new o h f g =
    (omega arith, from_append m.time l new o.1 (from_earlier m.time c new f o.0), ordered_append c t l new o.2 h f g)

-- ---- serials

eqb_swap : (a b : ℕ) → eqb a b ≡ false → eqb b a ≡ false
eqb_swap a b e = ne_eqb b a (λ h. eqb-false a b e (sym h))

serial_split : (s : ℕ) {all gone stay : List Message} → Split all gone stay → has_serial s all ≡ false → has_serial s stay ≡ false
unfolding has_serial
serial_split s empty e = e
serial_split s (goes {x} {all} p) e = serial_split s p (or_false (eqb x.serial s) (has_serial s all) e).1
serial_split s (remains {x} {all} p) e = let d = or_false (eqb x.serial s) (has_serial s all) e in rw d.0 (serial_split s p d.1)

serial_snoc : (s : ℕ) (l : List Message) (m : Message) → has_serial s l ≡ false → eqb m.serial s ≡ false → has_serial s (l ++ (m ∷ [])) ≡ false
unfolding has_serial
serial_snoc s [] m e h = rw h
serial_snoc s (x ∷ l) m e h =
    let p = or_false (eqb x.serial s) (has_serial s l) e in
    rw (p.0, serial_snoc s l m p.1 h)

distinct_split : {all gone stay : List Message} → Split all gone stay → Distinct all → Distinct stay
distinct_split empty d = d
distinct_split (goes p) d = distinct_split p d.1
distinct_split (remains {x} p) d = (serial_split x.serial p d.0, distinct_split p d.1)

distinct_snoc : (l : List Message) (m : Message) → Distinct l → has_serial m.serial l ≡ false → Distinct (l ++ (m ∷ []))
unfolding has_serial
distinct_snoc [] m d e = (refl, tt)
distinct_snoc (x ∷ l) m d e =
    let p = or_false (eqb x.serial m.serial) (has_serial m.serial l) e in
    (serial_snoc x.serial l m d.0 (eqb_swap x.serial m.serial p.0), distinct_snoc l m d.1 p.1)

-- ---- fields within their ranges

pub messages_append : (l new : List Message) → Messages l → Messages new → Messages (l ++ new)
messages_append [] new a b = b
messages_append (m ∷ l) new a b = (a.0, a.1, messages_append l new a.2 b)

pub messages_split : {all gone stay : List Message} → Split all gone stay → Messages all → Messages gone × Messages stay
messages_split empty a = (tt, tt)
messages_split (goes p) a = let r = messages_split p a.2 in ((a.0, a.1, r.0), r.1)
messages_split (remains p) a = let r = messages_split p a.2 in (r.0, (a.0, a.1, r.1))

messages_noting : (off : ℕ → Message → Bool) (l : List Message) → Messages l → Messages (noting off l)
unfolding noting
messages_noting off [] a = tt
messages_noting off (m ∷ l) a =
    let ih = messages_noting off l a.2 in
    by_bool (off (length l) m) (λ e. rw e (a.0, a.1, ih)) (λ e. rw e (a.0, a.1, ih))

messages_filled : (N T t : ℕ) (l : List Message) → Messages l → Messages (filled N T t l)
unfolding filled
messages_filled N T t [] a = tt
messages_filled N T t (m ∷ l) a =
    let ih = messages_filled N T t l a.2 in
    by_bool (filling N T t (length l) m) (λ e. rw e (a.0, a.1, ih)) (λ e. rw e ih)

pub filled_valid : (log : Log) (t : ℕ) → Sound log → Messages (filled_at log t)
filled_valid log t sound = messages_filled log.N log.T t log.messages sound.messages

messages_in_force : (N T t : ℕ) (l : List Message) → Messages l → Messages (in_force N T t l)
unfolding in_force
messages_in_force N T t [] a = tt
messages_in_force N T t (m ∷ l) a =
    let ih = messages_in_force N T t l a.2 in
    by_bool (standing N T t (length l) m) (λ e. rw e (a.0, a.1, ih)) (λ e. rw e ih)

pub in_force_valid : (log : Log) → Sound log → Messages (in_force_now log)
in_force_valid log sound = messages_in_force log.N log.T log.clock log.messages sound.messages

empty_queries : (n : ℕ) → Queries (replicate n none)
empty_queries zero = tt
empty_queries (suc n) = empty_queries n

some_query : (qs : List (Option Query)) (n : ℕ) (q : Query) → Queries qs → Terms q → Queries (set qs n (some q))
some_query [] n q a t = tt
some_query (none ∷ qs) zero q a t = (t, a)
some_query (some x ∷ qs) zero q a t = (t, a.1)
some_query (none ∷ qs) (suc n) q a t = some_query qs n q a t
some_query (some x ∷ qs) (suc n) q a t = (a.0, some_query qs n q a.1 t)

pub no_query : (qs : List (Option Query)) (n : ℕ) → Queries qs → Queries (set qs n none)
no_query [] n a = tt
no_query (none ∷ qs) zero a = a
no_query (some x ∷ qs) zero a = a.1
no_query (none ∷ qs) (suc n) a = no_query qs n a
no_query (some x ∷ qs) (suc n) a = (a.0, no_query qs n a.1)

-- ---- a frame that the log accepts

valid_time : (f : Frame) → Valid f → time_of f < 2 ^ 32
valid_time (message t s g ps) v = v.time
valid_time (tick t) v = v
valid_time (register t n k ps) v = v.time
valid_time (unregister t n) v = v.0
valid_time (cancel t s) v = v.0

module _ (log : Log) (f : Frame) (sound : Sound log) (ok : judge_frame log f ≡ 0) where
  -- its time is not below the clock
  pub time_from_clock : log.clock ≤ time_of f
  time_from_clock = ltb-false (time_of f) log.clock (not_refused (ltb (time_of f) log.clock) 6 (judge_kind log f) ok).0

  kind_ok : judge_kind log f ≡ 0
  kind_ok = (not_refused (ltb (time_of f) log.clock) 6 (judge_kind log f) ok).1

  -- what was in force departs or stays
  pub in_force_before : Split (in_force_now log) (departs log f) (stays log f)
  unfolding departs stays
  in_force_before = departing_remaining log.N log.T log.clock (time_of f) (length (arrivals f)) (cancels log f) log.messages

  distinct_stays : Distinct (stays log f)
  distinct_stays = distinct_split in_force_before sound.distinct

-- an arriving message is in force
arrive : (N T : ℕ) (f : Frame) → 1 ≤ N → (in_force N T (time_of f) (arrivals f) ≡ arrivals f) × (filled N T (time_of f) (arrivals f) ≡ arrivals f)
unfolding in_force filled
arrive N T (message t s g ps) n = let e = filling_true N T t 0 (arrival t s (grade_of g) ps) n (omega arith) in (rw e, rw e)
arrive N T (tick t) n = (refl, refl)
arrive N T (register t m k ps) n = (refl, refl)
arrive N T (unregister t m) n = (refl, refl)
arrive N T (cancel t s) n = (refl, refl)

-- what stays is in force, and then what arrives
pub in_force_after : (log : Log) (f : Frame) → Sound log → judge_frame log f ≡ 0 → in_force_now (accept log f) ≡ stays log f ++ arrivals f
unfolding accept stays
in_force_after log f sound ok =
    in_force_noting log.N log.T (cancels log f) log.clock (time_of f) log.messages (arrivals f) (time_from_clock log f sound ok)
    ∙ ap (λ (l : List Message). stays log f ++ l) (arrive log.N log.T f sound.n_least).0

-- ---- the places of the window

-- the messages that leave their places as the clock moves on and `more` are added, and those that keep them
abbrev pub vacates : Log → ℕ → ℕ → List Message
vacates log t more = vacating log.N log.T log.clock t more log.messages

abbrev pub keeps : Log → ℕ → ℕ → List Message
keeps log t more = staying log.N log.T t more log.messages

-- the oldest leave
pub places_before : (log : Log) (t more : ℕ) → Sound log → log.clock ≤ t → filled_now log ≡ vacates log t more ++ keeps log t more
places_before log t more sound h = vacating_staying log.N log.T log.clock t more log.clock log.messages sound.ordered h

-- those at a time, no message added
pub places_at : (log : Log) (t : ℕ) → keeps log t 0 ≡ filled_at log t
places_at log t = staying_none log.N log.T t log.messages

-- nothing noted as cancelled
pub noting_none : (off : ℕ → Message → Bool) → ((j : ℕ) (m : Message) → off j m ≡ false) → (l : List Message) → noting off l ≡ l
unfolding noting
noting_none off never [] = refl
noting_none off never (m ∷ l) = rw (never (length l) m, noting_none off never l)

-- a frame that cancels nothing
module _ (log : Log) (f : Frame) (none : (j : ℕ) (m : Message) → cancels log f j m ≡ false) (sound : Sound log) (ok : judge_frame log f ≡ 0) where
  abbrev more : ℕ
  more = length (arrivals f)

  pub departs_places : departs log f ≡ select active (vacates log (time_of f) more)
  unfolding departs
  departs_places = departing_vacating log.N log.T log.clock (time_of f) more (cancels log f) none (time_from_clock log f sound ok) log.messages

  pub stays_places : stays log f ≡ select active (keeps log (time_of f) more)
  unfolding stays
  stays_places = remaining_staying log.N log.T log.clock (time_of f) more (cancels log f) none (time_from_clock log f sound ok) log.messages

  pub places_after : filled_now (accept log f) ≡ keeps log (time_of f) more ++ arrivals f
  unfolding accept
  places_after =
      ap (λ (l : List Message). filled log.N log.T (time_of f) (l ++ arrivals f)) (noting_none (cancels log f) none log.messages)
      ∙ filled_append log.N log.T (time_of f) log.messages (arrivals f)
      ∙ ap (λ (l : List Message). keeps log (time_of f) more ++ l) (arrive log.N log.T f sound.n_least).1

-- no two share a serial as time goes on
pub distinct_at : (log : Log) (t : ℕ) → Sound log → log.clock ≤ t → Distinct (in_force_at log t)
distinct_at log t sound late =
    let off : ℕ → Message → Bool = cancels log (tick t) in
    subst Distinct
    (remaining_staying log.N log.T log.clock t 0 off (λ j m. refl) late log.messages
    ∙ ap (select active) (places_at log t)
    ∙ sym (in_force_filled log.N log.T t log.messages))
    (distinct_split (departing_remaining log.N log.T log.clock t 0 off log.messages) sound.distinct)

-- a message cancelled
module _ (log : Log) (t s : ℕ) (sound : Sound log) (late : log.clock ≤ t) where
  pub departs_cancelled : departs log (cancel t s) ≡ select active (vacates log t 0) ++ select (named s) (in_force_at log t)
  unfolding departs
  departs_cancelled = departing_named log.N log.T s log.clock t log.clock log.messages sound.ordered late

  pub stays_cancelled : stays log (cancel t s) ≡ select (unnamed s) (in_force_at log t)
  unfolding stays
  stays_cancelled = remaining_unnamed log.N log.T s log.clock t log.messages late

  pub places_cancelled : filled_now (accept log (cancel t s)) ≡ map (withdrawing s) (filled_at log t)
  unfolding accept
  places_cancelled =
      ap (filled log.N log.T t) (append-nil (noting (cancels log (cancel t s)) log.messages))
      ∙ filled_noting log.N log.T s t log.messages

-- What a query sees before a frame and after it, and what the frame moves for it.
pub record Sees (log : Log) (f : Frame) (q : Query) : Type 0 where
  pub gone : List Message
  pub stay : List Message
  pub come : List Message
  pub before : Split (seen log q) gone stay
  pub after : seen (accept log f) q ≡ stay ++ come
  pub moved : moved_for log f q ≡ gone ++ come

pub sees : (log : Log) (f : Frame) (q : Query) → Sound log → judge_frame log f ≡ 0 → Sees log f q
unfolding seen moved_for
sees log f q sound ok = record {
  gone = departs log f;
  stay = stays log f;
  come = arrivals f;
  before = in_force_before log f sound ok;
  after = in_force_after log f sound ok;
  moved = refl;
}

-- the serial of an arriving message isn't among those that stay
new_serial : (log : Log) (t s : ℕ) (g : Form) (ps : List Pair) → Sound log → judge_frame log (message t s g ps) ≡ 0
    → has_serial s (stays log (message t s g ps)) ≡ false
new_serial log t s g ps sound ok =
    let free : has_serial s (in_force_at log t) ≡ false = (not_refused (has_serial s (in_force_at log t)) 7 0 (kind_ok log (message t s g ps) sound ok)).0 in
    let off : ℕ → Message → Bool = cancels log (message t s g ps) in
    rw (
      stays_places log (message t s g ps) (λ j m. refl) sound ok,
      ← (remaining_staying log.N log.T t t 1 off (λ j m. refl) (le_refl t) log.messages),
    )
    (serial_split s (departing_remaining log.N log.T t t 1 off log.messages) free)

distinct_after : (log : Log) (f : Frame) → Sound log → judge_frame log f ≡ 0 → Distinct (stays log f ++ arrivals f)
distinct_after log (message t s g ps) sound ok =
    distinct_snoc (stays log (message t s g ps)) (arrival t s (grade_of g) ps) (distinct_stays log (message t s g ps) sound ok)
    (new_serial log t s g ps sound ok)
distinct_after log (tick t) sound ok = rw append-nil (distinct_stays log (tick t) sound ok)
distinct_after log (register t n k ps) sound ok = rw append-nil (distinct_stays log (register t n k ps) sound ok)
distinct_after log (unregister t n) sound ok = rw append-nil (distinct_stays log (unregister t n) sound ok)
distinct_after log (cancel t s) sound ok = rw append-nil (distinct_stays log (cancel t s) sound ok)

arrivals_from : (f : Frame) (c : ℕ) → c ≤ time_of f → From c (arrivals f) × Chronological (time_of f) (arrivals f)
arrivals_from (message t s g ps) c h = ((h, tt), (le_refl t, tt, tt))
arrivals_from (tick t) c h = (tt, tt)
arrivals_from (register t n k ps) c h = (tt, tt)
arrivals_from (unregister t n) c h = (tt, tt)
arrivals_from (cancel t s) c h = (tt, tt)

pub arrivals_valid : (f : Frame) → Valid f → Messages (arrivals f)
arrivals_valid (message t s g ps) v =
    let p = v.pairs in
    let few = le_trans p.at_most (form_most g) in
    (v.serial, record { least_one = p.least_one; at_most = few; fit = p.fit; above_zero = p.above_zero; in_order = p.in_order }, tt)
arrivals_valid (tick t) v = tt
arrivals_valid (register t n k ps) v = tt
arrivals_valid (unregister t n) v = tt
arrivals_valid (cancel t s) v = tt

queries_after_lem : (f : Frame) (qs : List (Option Query)) → Queries qs → Valid f → (length (queries_after f qs) ≡ length qs) × Queries (queries_after f qs)
queries_after_lem (message t s g ps) qs a v = (refl, a)
queries_after_lem (tick t) qs a v = (refl, a)
queries_after_lem (register t n k ps) qs a v =
    let q : Query = record { k = k; terms = ps } in
    (length-set qs n (some q), some_query qs n q a (record { k_least = v.k_least; k_most = v.k_most; terms = v.terms }))
queries_after_lem (unregister t n) qs a v = (length-set qs n none, no_query qs n a)
queries_after_lem (cancel t s) qs a v = (refl, a)

pub accept_sound : (log : Log) (f : Frame) → Sound log → Valid f → judge_frame log f ≡ 0 → Sound (accept log f)
unfolding accept
accept_sound log f sound v ok =
    let qs = queries_after_lem f log.queries sound.queries v in
    let late = time_from_clock log f sound ok in
    let new = arrivals_from f log.clock late in
    record {
      n_least = sound.n_least;
      t_least = sound.t_least;
      clock_below = valid_time f v;
      ordered =
          ordered_append log.clock (time_of f) (noting (cancels log f) log.messages) (arrivals f)
          (ordered_noting (cancels log f) log.clock log.messages sound.ordered) late new.0 new.1;
      distinct = subst Distinct (sym (in_force_after log f sound ok)) (distinct_after log f sound ok);
      messages =
          messages_append (noting (cancels log f) log.messages) (arrivals f)
          (messages_noting (cancels log f) log.messages sound.messages) (arrivals_valid f v);
      numbered = qs.0 ∙ sound.numbered;
      queries = qs.1;
    }

-- ---- whole lists of frames

pub fresh_sound : (N T : ℕ) → 1 ≤ N → 1 ≤ T → Sound (fresh N T)
unfolding in_force
fresh_sound N T n t = record {
  n_least = n;
  t_least = t;
  clock_below = omega arith;
  ordered = tt;
  distinct = tt;
  messages = tt;
  numbered = refl;
  queries = empty_queries numbers;
}

-- a shape that is not refused is a frame that the log accepts
accept_shape_sound : (log : Log) (x : Shape) → Sound log → ((f : Frame) → x ≡ accepted f → Valid f) → judge_shape log x ≡ 0 → Sound (accept_shape log x)
accept_shape_sound log (refused r) sound valid ok = sound
accept_shape_sound log (accepted f) sound valid ok = accept_sound log f sound (valid f refl) ok

-- a call that is not refused has such a shape
pub shape_judged : (needed : ℕ) (log : Log) (c : Call) → eqb (judge needed log c) 0 ≡ true → judge_shape log (shape c.bytes) ≡ 0
unfolding judge
shape_judged needed log c e =
    let z = eqb-true (judge needed log c) 0 e in
    by_bool (lent c.state c.output needed) (λ h. rw h at z) (λ h. let t = rw h at z in absurd (omega arith))

pub after_sound : (needed : ℕ) (log : Log) (c : Call) → Sound log → Sound (after needed log c)
unfolding after
after_sound needed log c sound =
    by_bool (eqb (judge needed log c) 0)
    (λ e. rw e (accept_shape_sound log (shape c.bytes) sound (shape_valid c.bytes) (shape_judged needed log c e)))
    (λ e. rw e sound)

-- whatever is called, the log stays sound: by serial every message in force is known, as demand 3 compares them
pub replay_sound : (needed : ℕ) (log : Log) (cs : List Call) → Sound log → Sound (replay needed log cs)
unfolding replay
replay_sound needed log [] sound = sound
replay_sound needed log (c ∷ cs) sound = replay_sound needed (after needed log c) cs (after_sound needed log c sound)
