-- The bits of a reply's marks, and when a frame marks a query that is registered before and after it. Assumes nothing.
use Prim.Native.Nat.{ℕ, zero, suc, ◌+◌, ◌*◌, ◌-◌, ◌/◌, ◌<◌, ◌^◌}
use native.Mathlib.Nat.{zero-add, pow-succ', mul-add-div_right, mul_comm}
use native.Mathlib.Omega.{arith}
use mathlib.Core.Path.{◌≡◌, refl, sym, ap, ◌∙◌, subst}
use mathlib.Core.Logic.{◌↔◌}
use mathlib.Core.Bool.{Bool, true, false, cond}
use mathlib.Core.List.{List, [], ◌∷◌}
use mathlib.Core.Option.{Option, none, some}
use lib.ListN.{get_or, set}
use lib.Dec.{eqb, ltb}
use lib.Pow.{pow_pos, pow-add, high}
use borrow.Author.Tests.{eqb-true, ltb-true, ltb-false}
use Rattle.wire.specs.Bits.{val, odd}
use Rattle.wire.proofs.BitLaws.{odd_val, odd_skip}
use Rattle.paper.specs.Frame.{Frame, Shape, shape, numbers}
use Rattle.paper.specs.Frame.Frame.{message, tick, register, unregister, cancel}
use Rattle.paper.specs.Frame.Shape.{refused, accepted}
use Rattle.paper.specs.Window.{Message}
use Rattle.paper.specs.Rank.{Query}
use Rattle.paper.specs.Order.{In}
use Rattle.paper.specs.Threshold.{Kept, reached}
use Rattle.paper.specs.Log.{Log, Call, query_at, is_in_use, judge_shape, judge_frame, judge_kind, judge, accept, accept_shape, after, seen}
use Rattle.paper.specs.Demand3.{
  Keeping,
  SettledAt,
  AllSettled,
  names,
  reached_by,
  marked,
  bitmap,
  Reply,
  marks_shape,
  reply_to,
  marked_shape,
  marked_by,
  moved_shape,
  moved,
  ExceedsKept,
  Answered,
}
use Rattle.paper.proofs.Tests.{by_bool, not_refused}
use Rattle.paper.proofs.LogLaws.{shape_judged}
use Rattle.paper.proofs.ThresholdLaws.{reached_exactly}

-- ---- bit q of the number whose bits are tests

pub bitmap_small : (f : ℕ → Bool) (n : ℕ) → bitmap f n < 2 ^ n
unfolding bitmap
bitmap_small f zero = omega arith
bitmap_small f (suc n) =
    let h = bitmap_small f n in
    by_bool (f n) (λ e. rw (e, pow-succ' 2 n) (omega arith)) (λ e. rw (e, pow-succ' 2 n) (omega arith))

-- the highest bit of a number, and those below it
bit_top : (b : Bool) (n : ℕ) {r : ℕ} → r < 2 ^ n → odd ((cond b (2 ^ n) 0 + r) / 2 ^ n) ≡ b
bit_top b n {r} h = ap (λ (x : ℕ). odd ((x + r) / 2 ^ n)) (weight b) ∙ ap odd (high (val b) n h) ∙ odd_val b
  where
    weight : (b : Bool) → cond b (2 ^ n) 0 ≡ val b * 2 ^ n
    weight true = omega arith
    weight false = omega arith

bit_below : (b : Bool) (d q r : ℕ) → odd ((cond b (2 ^ (suc d + q)) 0 + r) / 2 ^ q) ≡ odd (r / 2 ^ q)
bit_below false d q r = rw (zero-add r)
bit_below true d q r =
    rw (pow-add 2 (suc d) q, mul-add-div_right (pow_pos q) (2 ^ suc d) r, pow-succ' 2 d, mul_comm 2 (2 ^ d)) (odd_skip (2 ^ d) (r / 2 ^ q))

pub bitmap_bit : (f : ℕ → Bool) (n q : ℕ) → q < n → odd (bitmap f n / 2 ^ q) ≡ f q
unfolding bitmap
bitmap_bit f zero q l = absurd (omega arith)
bitmap_bit f (suc n) q l =
    by_bool (ltb q n)
    (λ t. let h : q < n = ltb-true q n t in
    let e : n ≡ suc (n - 1 - q) + q = omega arith in
    ap (λ (x : ℕ). odd ((cond (f n) (2 ^ x) 0 + bitmap f n) / 2 ^ q)) e ∙ bit_below (f n) (n - 1 - q) q (bitmap f n) ∙ bitmap_bit f n q h)
    (λ t. let e : q ≡ n = let k = ltb-false q n t in omega arith in rw e (bit_top (f n) n (bitmap_small f n)))

zero_bit : (q : ℕ) → odd (0 / 2 ^ q) ≡ false
zero_bit q = bit_top false q (pow_pos q)

-- ---- the marks of a reply

marks_shape_lem : (log : Log) (kept : Keeping) (x : Shape) (n : ℕ) → n < numbers → odd (marks_shape log kept x / 2 ^ n) ≡ marked_shape log kept x n
marks_shape_lem log kept (refused r) n l = zero_bit n
marks_shape_lem log kept (accepted f) n l = bitmap_bit (marked log kept f) numbers n l

-- bit n is set exactly where the call marks number n
pub bit_marked : (needed : ℕ) (log : Log) (kept : Keeping) (c : Call) (n : ℕ) → n < numbers
    → odd ((reply_to needed log kept c).marks / 2 ^ n) ≡ marked_by needed log kept c n
unfolding reply_to marked_by
bit_marked needed log kept c n l =
    by_bool (eqb (judge needed log c) 0) (λ e. rw e (marks_shape_lem log kept (shape c.bytes) n l)) (λ e. rw e (zero_bit n))

-- ---- a query registered before and after a frame

emptied : (qs : List (Option Query)) (n : ℕ) → get_or (set qs n none) n none ≡ none
emptied [] n = refl
emptied (q ∷ qs) zero = refl
emptied (q ∷ qs) (suc n) = emptied qs n

-- an accepted frame neither registers nor drops it
pub registered_unnamed : (log : Log) (f : Frame) (n : ℕ) (q q' : Query) → judge_frame log f ≡ 0 → query_at log n ≡ some q → query_at (accept log f) n ≡ some q'
    → names f n ≡ false
unfolding accept
registered_unnamed log (message t s g ps) n q q' ok b a = refl
registered_unnamed log (tick t) n q q' ok b a = refl
registered_unnamed log (register t m k ps) n q q' ok b a =
    by_bool (eqb m n)
    (λ e. let free = (not_refused (is_in_use (query_at log m)) 8 0 (not_refused (ltb t log.clock) 6 (judge_kind log (register t m k ps)) ok).1).0 in
    e ∙ sym (ap is_in_use (ap (query_at log) (eqb-true m n e) ∙ b)) ∙ free)
    (λ e. e)
registered_unnamed log (unregister t m) n q q' ok b a =
    by_bool (eqb m n)
    (λ e. e ∙ sym (ap is_in_use a) ∙ ap (λ (i : ℕ). is_in_use (get_or (set log.queries i none) n none)) (eqb-true m n e) ∙ ap is_in_use (emptied log.queries n))
    (λ e. e)
registered_unnamed log (cancel t s) n q q' ok b a = refl

none_reaches : (x : Option Query) (y : Option Kept) → reached_by x y (λ q. []) ≡ false
unfolding reached
none_reaches none y = refl
none_reaches (some q) none = refl
none_reaches (some q) (some x) = refl

module _ (log : Log) (kept : Keeping) (n : ℕ) (q q' : Query) (before : query_at log n ≡ some q) where
  marked_shape_lem : (x : Shape) → judge_shape log x ≡ 0 → query_at (accept_shape log x) n ≡ some q'
      → marked_shape log kept x n ≡ reached_by (query_at log n) (kept n) (moved_shape log x)
  unfolding marked
  marked_shape_lem (refused r) ok a = sym (none_reaches (query_at log n) (kept n))
  marked_shape_lem (accepted f) ok a = rw (registered_unnamed log f n q q' ok before a)

  -- so it is marked where it is reached
  marked_reached : (needed : ℕ) (c : Call) → query_at (after needed log c) n ≡ some q'
      → marked_by needed log kept c n ≡ reached_by (query_at log n) (kept n) (moved needed log c)
  unfolding marked_by moved after
  marked_reached needed c a =
      let x : Shape = shape c.bytes in
      let Marks : Bool → Type 0 = λ b. cond b (marked_shape log kept x n) false ≡ reached_by (query_at log n) (kept n) (λ q. cond b (moved_shape log x q) []) in
      by_bool (eqb (judge needed log c) 0)
      (λ e. subst Marks (sym e) (marked_shape_lem x (shape_judged needed log c e) (rw e at a)))
      (λ e. subst Marks (sym e) (sym (none_reaches (query_at log n) (kept n))))

-- reached by what is kept of a settled query
reached_kept : (q : Query) (now : Query → List Message) (x : Option Kept) (ms : Query → List Message) → SettledAt (some q) now x
    → (reached_by (some q) x ms ≡ true) ↔ ((m : Message) × In m (ms q) × ExceedsKept q x m)
reached_kept q now none ms s = absurd s
reached_kept q now (some x) ms s = reached_exactly q.terms x.thresholds s.one_each (ms q)

-- a call answered as the log says, on what agreed with the log, marks as the demand says
pub answered_by_log : (needed : ℕ) (log : Log) (kept : Keeping) (c : Call) (r : Reply) (kept' : Keeping) → AllSettled log kept → r ≡ reply_to needed log kept c
    → ((n : ℕ) → n < numbers → marked_by needed log kept c n ≡ false → kept' n ≡ kept n) → Answered needed log kept c r kept'
answered_by_log needed log kept c r kept' settled e unmarked =
    record {
      reply = e;
      marked = λ n q q' l before after'.
          let is : odd (r.marks / 2 ^ n) ≡ reached_by (some q) (kept n) (moved needed log c) =
          ap (λ (r : Reply). odd (r.marks / 2 ^ n)) e ∙ bit_marked needed log kept c n l
          ∙ marked_reached log kept n q q' before needed c after'
          ∙ ap (λ (x : Option Query). reached_by x (kept n) (moved needed log c)) before in
          let x = reached_kept q (seen log) (kept n) (moved needed log c)
          (subst (λ (y : Option Query). SettledAt y (seen log) (kept n)) before (settled n l)) in
          (λ h. x.0 (sym is ∙ h), λ h. is ∙ x.1 h);
      unmarked = unmarked;
    }
