-- The laws of the writer's definition: what it accepts is a valid frame, every valid frame comes from its fields, and a refusal's number is 2 to 6 or 14.
-- Assumes nothing.
use mathlib.Core.Path.{◌≡◌, refl, sym, ap, subst}
use Prim.Native.Nat.{ℕ, zero, suc, ◌+◌, ◌-◌, ◌^◌, ◌≤◌, ◌<◌}
use native.Mathlib.Nat.{le_trans, not-suc-le-zero, add-sub_cancel}
use native.Mathlib.Omega.{arith}
use mathlib.Core.Bool.{Bool, true, false, ◌&&◌}
use mathlib.Core.Logic.{◌⊎◌, inl, inr}
use mathlib.Core.List.{List, [], ◌∷◌, map}
use lib.ListN.{length, length-map}
use lib.Dec.{leb, ltb, lit≤}
use borrow.Author.Tests.{ltb-true, leb-true, lt-ltb, le-leb}
use Rattle.paper.specs.Frame.{
  Pair,
  Urgency,
  Form,
  Frame,
  Fields,
  Row,
  Pairs,
  AllFit,
  Valid,
  level,
  urgency_of,
  no_row,
  row_of,
  message_row,
  tick_row,
  register_row,
  unregister_row,
}
use Rattle.paper.specs.Frame.{
  cancel_row,
  graded_by,
  graded_row,
  long_row,
  frame_of,
  grades_known,
  judged,
  written_by,
  pairs_width,
  long_pairs_width,
  count_width,
  weight_width,
  most_pairs,
  most_in,
  most_terms,
  encode,
  shape,
  positive,
  rises,
  rising,
}
use Rattle.paper.specs.Frame.Frame.{message, tick, register, unregister, cancel}
use Rattle.paper.specs.Frame.Form.{ungraded, graded, long}
use Rattle.paper.specs.Frame.Shape.{refused, accepted}
use Rattle.paper.specs.Write.{
  side_by_side,
  all_within,
  head_within,
  value_of,
  pairs_taken,
  pairs_within,
  pairs_of,
  pairs_in,
  from_kind,
  from_fields,
  fields_for,
  fields_with,
  fields_of,
}
use Rattle.paper.proofs.FrameLaws.{or_refused, Judged, by_kind, level_of, level_most, of_level, shape_encode}

-- ---- tests

pub and_left : (a b : Bool) → (a && b) ≡ true → a ≡ true
and_left true b e = refl
and_left false b e = e

pub and_right : (a b : Bool) → (a && b) ≡ true → b ≡ true
and_right true b e = e
and_right false b e = let z : ◌≡◌ {A = ℕ} 0 1 = cc in absurd (omega arith)

both : (a b : Bool) → a ≡ true → b ≡ true → (a && b) ≡ true
both a b p q = rw (p, q)

-- from a conjunction of tests to their facts, and back
ruleset facts = (and_left, and_right, ltb-true, leb-true)

ruleset tests = (both, lt-ltb, le-leb)

-- ---- pairs

pub length_side : (n : ℕ) (ts us : List ℕ) → n ≤ length ts → n ≤ length us → length (side_by_side n ts us) ≡ n
unfolding side_by_side
length_side zero ts us h k = refl
length_side (suc n) [] us h k = absurd (not-suc-le-zero h)
length_side (suc n) (t ∷ ts) [] h k = absurd (not-suc-le-zero k)
length_side (suc n) (t ∷ ts) (u ∷ us) h k = ap suc (length_side n ts us (omega arith) (omega arith))

within_fit : (w : ℕ) (ps : List Pair) → all_within w ps ≡ true → AllFit w ps × (positive ps ≡ true)
unfolding all_within positive
within_fit w [] e = (tt, refl)
within_fit w (p ∷ ps) e =
    let r : AllFit w ps × (positive ps ≡ true) = within_fit w ps (search facts) in
    let z : ltb 0 p.amount ≡ true = search facts in
    ((search facts, search facts, r.0), search tests)

fit_within : (w : ℕ) (ps : List Pair) → AllFit w ps → positive ps ≡ true → all_within w ps ≡ true
unfolding all_within positive
fit_within w [] h e = refl
fit_within w (p ∷ ps) h e =
    let r : all_within w ps ≡ true = fit_within w ps h.2 (search facts) in
    let z : ltb 0 p.amount ≡ true = search facts in
    search tests

-- pairs that are as many as is said and within their range
pairs_within_lem : (w most n : ℕ) (ts us : List ℕ) → 0 < n → n ≤ most → n ≤ length ts → n ≤ length us
    → all_within w (side_by_side n ts us) ≡ true → rising (side_by_side n ts us) ≡ true → Pairs w most (side_by_side n ts us)
pairs_within_lem w most n ts us l m t a e o =
    let f = within_fit w (side_by_side n ts us) e in
    let k : length (side_by_side n ts us) ≡ n = length_side n ts us t a in
    record { least_one = omega arith; at_most = omega arith; fit = f.0; above_zero = f.1; in_order = o }

-- ---- what is accepted

judged_sound : (known t : Bool) (ps : List Pair) (f : Frame) → (t ≡ true → rising ps ≡ true → Valid f) → Judged 2 Valid (judged known t ps (accepted f))
judged_sound known t ps f h =
    or_refused (Judged 2 Valid) known (inr refl)
    (λ _. or_refused (Judged 2 Valid) t (inl (lit≤ tt, lit≤ tt)) (λ e. or_refused (Judged 2 Valid) (rising ps) (inl (lit≤ tt, lit≤ tt)) (h e)))

pub unknown_kind : (x : Fields) (k : ℕ) → row_of k ≡ no_row → from_kind k x ≡ refused 2
unfolding from_kind
unknown_kind x k e = rw e

-- a message with an urgency, its number of pairs in a field of w bits
graded_sound : (x : Fields) (w : ℕ) (form : Urgency → Form) → ((u : Urgency) → 2 ^ w ≤ most_in (form u)) → let row = graded_by w in
    let ps = pairs_of row x in
    Judged 2 Valid (judged (grades_known row.head (map (value_of x) row.head)) (head_within row.head x && pairs_within row x) ps
    (accepted (message x.time x.serial (form (urgency_of x.urgency)) ps)))
unfolding head_within
graded_sound x w form most =
    let row = graded_by w in
    let u = urgency_of x.urgency in
    judged_sound (grades_known row.head (map (value_of x) row.head)) (head_within row.head x && pairs_within row x) (pairs_of row x)
    (message x.time x.serial (form u) (pairs_of row x)) (λ e o. record {
      time = search facts;
      serial = search facts;
      pairs =
          let few : x.pairs ≤ 2 ^ w = search facts in
          pairs_within_lem count_width (most_in (form u)) x.pairs x.terms x.amounts (search facts) (le_trans few (most u)) (search facts)
          (search facts) (search facts) o;
    })

kind_sound : (x : Fields) (k : ℕ) → Judged 2 Valid (from_kind k x)
unfolding from_kind row_of frame_of head_within grades_known
kind_sound x =
    let m = x.pairs in
    let ts = x.terms in
    let us = x.amounts in
    by_kind (λ k. Judged 2 Valid (from_kind k x))
    (judged_sound true (head_within message_row.head x && pairs_within message_row x) (side_by_side m ts us)
    (message x.time x.serial ungraded (side_by_side m ts us)) (λ e o. record {
      time = search facts;
      serial = search facts;
      pairs = pairs_within_lem count_width (most_in ungraded) m ts us (search facts) (search facts) (search facts) (search facts) (search facts) o;
    }))
    (judged_sound true (head_within tick_row.head x && pairs_within tick_row x) (side_by_side 0 ts us) (tick x.time) (λ e _. search facts))
    (judged_sound true (head_within register_row.head x && pairs_within register_row x) (side_by_side m ts us)
    (register x.time x.number (x.k - 1 + 1) (side_by_side m ts us)) (λ e o.
    let l : 0 < x.k = search facts in
    let u : x.k ≤ 2 ^ 4 = search facts in
    record {
      time = search facts;
      number = search facts;
      k_least = omega arith;
      k_most = omega arith;
      terms = pairs_within_lem weight_width most_terms m ts us (search facts) (search facts) (search facts) (search facts) (search facts) o;
    }))
    (judged_sound true (head_within unregister_row.head x && pairs_within unregister_row x) (side_by_side 0 ts us) (unregister x.time x.number)
    (λ e _. (search facts, search facts)))
    (judged_sound true (head_within cancel_row.head x && pairs_within cancel_row x) (side_by_side 0 ts us) (cancel x.time x.serial)
    (λ e _. (search facts, search facts)))
    (graded_sound x pairs_width graded (λ _. lit≤ tt))
    (graded_sound x long_pairs_width long (λ _. lit≤ tt))
    (λ k none. rw (unknown_kind x k none) (inl (lit≤ tt, lit≤ tt)))

fields_sound : (x : Fields) → Judged 2 Valid (from_fields x)
fields_sound x = kind_sound x x.kind

pub fields_valid : (x : Fields) (f : Frame) → from_fields x ≡ accepted f → Valid f
fields_valid x f e = subst (Judged 2 Valid) e (fields_sound x)

pub fields_number : (x : Fields) (r : ℕ) → from_fields x ≡ refused r → ((2 ≤ r) × (r ≤ 6)) ⊎ (r ≡ 14)
fields_number x r e = subst (Judged 2 Valid) e (fields_sound x)

-- what the writer writes is read back
pub fields_read : (x : Fields) (f : Frame) → from_fields x ≡ accepted f → shape (encode f) ≡ accepted f
fields_read x f e = shape_encode f (fields_valid x f e)

-- ---- the bytes that fields make

-- the frame that is made of x's fields and pairs, and its bytes by its row
pub record Made (x : Fields) (k : ℕ) : Type 0 where
  pub frame : Frame
  pub is : frame_of k (map (value_of x) (row_of k).head) (pairs_of (row_of k) x) ≡ accepted frame
  pub spelled : encode frame ≡ written_by (row_of k) (k ∷ map (value_of x) (row_of k).head) (pairs_of (row_of k) x)

pub made : (x : Fields) (k : ℕ) → 0 < length (row_of k).head → grades_known (row_of k).head (map (value_of x) (row_of k).head) ≡ true
    → length (pairs_of (row_of k) x) ≡ pairs_taken (row_of k) x → Made x k
unfolding row_of frame_of encode side_by_side grades_known
made x =
    by_kind (λ k. 0 < length (row_of k).head → grades_known (row_of k).head (map (value_of x) (row_of k).head) ≡ true
    → length (pairs_of (row_of k) x) ≡ pairs_taken (row_of k) x → Made x k)
    (λ _ _ n. record { frame = message x.time x.serial ungraded (pairs_of message_row x); is = refl; spelled = rw n })
    (λ _ _ n. record { frame = tick x.time; is = refl; spelled = refl })
    (λ _ _ n. record { frame = register x.time x.number (x.k - 1 + 1) (pairs_of register_row x); is = refl; spelled = rw (n, add-sub_cancel (x.k - 1) 1) })
    (λ _ _ n. record { frame = unregister x.time x.number; is = refl; spelled = refl })
    (λ _ _ n. record { frame = cancel x.time x.serial; is = refl; spelled = refl })
    (λ _ e n. record {
      frame = message x.time x.serial (graded (urgency_of x.urgency)) (pairs_of graded_row x);
      is = refl;
      spelled = rw (n, level_of x.urgency (search facts));
    })
    (λ _ e n. record {
      frame = message x.time x.serial (long (urgency_of x.urgency)) (pairs_of long_row x);
      is = refl;
      spelled = rw (n, level_of x.urgency (search facts));
    })
    (λ k none h _ _. let z : 0 < length no_row.head = subst (λ (row : Row). 0 < length row.head) none h in absurd (omega arith))

-- fields in range take no more pairs than a message can have
pub taken_most : (x : Fields) (k : ℕ) → head_within (row_of k).head x ≡ true → pairs_taken (row_of k) x ≤ most_pairs
unfolding row_of head_within
taken_most x =
    by_kind (λ k. head_within (row_of k).head x ≡ true → pairs_taken (row_of k) x ≤ most_pairs)
    (λ e. let h : x.pairs ≤ 2 ^ pairs_width = search facts in omega arith)
    (λ _. lit≤ tt)
    (λ e. let h : x.pairs ≤ 2 ^ 3 = search facts in omega arith)
    (λ _. lit≤ tt)
    (λ _. lit≤ tt)
    (λ e. let h : x.pairs ≤ 2 ^ pairs_width = search facts in omega arith)
    (λ e. search facts)
    (λ k none _. subst (λ (row : Row). pairs_taken row x ≤ most_pairs) (sym none) (lit≤ tt))

-- ---- the other way

side_of : (ps : List Pair) → side_by_side (length ps) (map (λ p. p.term) ps) (map (λ p. p.amount) ps) ≡ ps
unfolding side_by_side
side_of [] = refl
side_of (p ∷ ps) = ap (λ (qs : List Pair). p ∷ qs) (side_of ps)

-- pairs that are the first places of two lists
pub record Beside (ts us : List ℕ) (ps : List Pair) : Type 0 where
  pub terms : length ps ≤ length ts
  pub amounts : length ps ≤ length us
  pub are : side_by_side (length ps) ts us ≡ ps

-- they are within their range
given : {w most : ℕ} {ts us : List ℕ} {ps : List Pair} → Pairs w most ps → Beside ts us ps
    → (leb (length ps) (length ts) && leb (length ps) (length us) && all_within w (side_by_side (length ps) ts us)) ≡ true
given {w} {ts = ts} {us} {ps} p b =
    rw (
      le-leb (length ps) (length ts) b.terms,
      le-leb (length ps) (length us) b.amounts,
      b.are,
      fit_within w ps p.fit p.above_zero,
    )

-- a message with an urgency, its number of pairs in a field of w bits
graded_with : (k w : ℕ) (form : Urgency → Form) (t s : ℕ) (u : Urgency) (ps : List Pair) (ts us : List ℕ) → let row = graded_by w in
    let x = fields_for k t s (level u) 0 0 (length ps) ts us in
    from_kind k x ≡ judged (grades_known row.head (map (value_of x) row.head)) (head_within row.head x && pairs_within row x) (pairs_of row x)
    (accepted (message t s (form (urgency_of (level u))) (pairs_of row x)))
    → t < 2 ^ 32 → s < 2 ^ 20 → Pairs count_width (2 ^ w) ps → Beside ts us ps → from_kind k x ≡ accepted (message t s (form u) ps)
unfolding head_within grades_known
graded_with k w form t s u ps ts us is ht hs p b =
    let m : ℕ = length ps in
    let few : level u ≤ 2 = level_most u in
    rw (
      is,
      le-leb (level u) 2 few,
      lt-ltb t (2 ^ 32) ht,
      lt-ltb s (2 ^ 20) hs,
      lt-ltb (level u) (2 ^ 2) (omega arith),
      lt-ltb 0 m p.least_one,
      le-leb m (2 ^ w) p.at_most,
      given p b,
      b.are,
      p.in_order,
      of_level u,
    )

-- a valid frame comes from its fields, whatever stands in the lists past its pairs
pub fields_with_lem : (f : Frame) (ts us : List ℕ) → Valid f → Beside ts us (pairs_in f) → from_fields (fields_with f ts us) ≡ accepted f
unfolding from_kind row_of frame_of head_within rises all_within side_by_side grades_known
fields_with_lem (message t s ungraded ps) ts us v b =
    let p = v.pairs in
    let m : ℕ = length ps in
    rw (
      lt-ltb t (2 ^ 32) v.time,
      lt-ltb s (2 ^ 20) v.serial,
      lt-ltb 0 m p.least_one,
      le-leb m (most_in ungraded) p.at_most,
      given p b,
      b.are,
      p.in_order,
    )
fields_with_lem (message t s (graded u) ps) ts us v b = graded_with 6 pairs_width graded t s u ps ts us refl v.time v.serial v.pairs b
fields_with_lem (message t s (long u) ps) ts us v b = graded_with 7 long_pairs_width long t s u ps ts us refl v.time v.serial v.pairs b
fields_with_lem (tick t) ts us v b = rw (lt-ltb t (2 ^ 32) v, le-leb 0 (length ts) b.terms, le-leb 0 (length us) b.amounts)
fields_with_lem (register t n k ps) ts us v b =
    let p = v.terms in
    let m : ℕ = length ps in
    let e : k - 1 + 1 ≡ k = let h = v.k_least in omega arith in
    rw (
      lt-ltb t (2 ^ 32) v.time,
      lt-ltb n (2 ^ 5) v.number,
      lt-ltb 0 k v.k_least,
      le-leb k (2 ^ 4) v.k_most,
      lt-ltb 0 m p.least_one,
      le-leb m most_terms p.at_most,
      given p b,
      b.are,
      p.in_order,
      e,
    )
fields_with_lem (unregister t n) ts us v b =
    rw (lt-ltb t (2 ^ 32) v.0, lt-ltb n (2 ^ 5) v.1, le-leb 0 (length ts) b.terms, le-leb 0 (length us) b.amounts)
fields_with_lem (cancel t s) ts us v b =
    rw (lt-ltb t (2 ^ 32) v.0, lt-ltb s (2 ^ 20) v.1, le-leb 0 (length ts) b.terms, le-leb 0 (length us) b.amounts)

pub fields_of_lem : (f : Frame) → Valid f → from_fields (fields_of f) ≡ accepted f
fields_of_lem f v =
    let ps = pairs_in f in
    fields_with_lem f _ _ v (record {
      terms = omega (arith, length-map ps (λ p. p.term));
      amounts = omega (arith, length-map ps (λ p. p.amount));
      are = side_of ps;
    })
