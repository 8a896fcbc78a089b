-- The laws of the frame: what is encoded is read back, what is read is the encoding of a valid frame, and a refusal's number is 1 to 6 or 14.
-- All but the last two sections are for any head, any width of a count or weight, and any number of pairs.
-- Assumes nothing.
use mathlib.Core.Path.{◌≡◌, refl, sym, ap, ap₂, ◌∙◌, subst}
use Prim.Native.Nat.{ℕ, zero, suc, ◌+◌, ◌-◌, ◌*◌, ◌^◌, ◌≤◌, ◌<◌}
use native.Mathlib.Nat.{lt_of_lt_of_le, zero-add, add-sub_cancel, add_assoc, zero-mul, suc-mul}
use native.Mathlib.Omega.{arith}
use mathlib.Core.Bool.{Bool, true, false, cond, ◌&&◌}
use mathlib.Core.Logic.{◌⊎◌, inl, inr}
use mathlib.Core.List.{List, [], ◌∷◌, ◌++◌}
use lib.ListN.{length, get_or}
use lib.Dec.{eqb, leb, ltb, lit≤, lit<}
use lib.Pow.{pow_pos}
use borrow.Author.Tests.{eqb-true, eq-eqb, ne_eqb, leb-true, le-leb, le-ltb}
use Rattle.wire.specs.Bits.{Bytes, pack}
use Rattle.wire.specs.Field.{field, total, spell, scan, Fit}
use Rattle.wire.proofs.BitLaws.{length_pack}
use Rattle.wire.proofs.FieldLaws.{field_lt}
use Rattle.wire.proofs.LayoutLaws.{scan_spell, pack_scan, total_append, scan_append, scan_parts, fit_append}
use Rattle.paper.specs.Frame.{
  Pair,
  Urgency,
  Form,
  Frame,
  Shape,
  Pairs,
  AllFit,
  Valid,
  level,
  urgency_of,
  message_row,
  tick_row,
  register_row,
  unregister_row,
  cancel_row,
  graded_by,
  graded_row,
  long_row,
  no_row,
  row_of,
  widths,
  frame_of,
  term_width,
  count_width,
}
use Rattle.paper.specs.Frame.{
  weight_width,
  pairs_width,
  long_pairs_width,
  most_pairs,
  most_in,
  most_terms,
  pair_widths,
  pair_values,
  bits_of,
  bytes_for,
  fill_after,
  written,
  written_by,
  encode,
  pairs_at,
  positive,
  rises,
  rising,
  grades_known,
  check,
  shape_of_kind,
  shape,
}
use Rattle.paper.proofs.Tests.{and_true}
use Rattle.paper.specs.Frame.Frame.{message, tick, register, unregister, cancel}
use Rattle.paper.specs.Frame.Urgency.{routine, important, vital}
use Rattle.paper.specs.Frame.Form.{ungraded, graded, long}
use Rattle.paper.specs.Frame.Shape.{refused, accepted}

-- ---- pairs

scan_pairs : (s : List ℕ) (at w m : ℕ) → scan s at (pair_widths w m) ≡ pair_values (pairs_at s at w m)
unfolding scan pair_widths pair_values pairs_at
scan_pairs s at w zero = refl
scan_pairs s at w (suc m) = rw (add_assoc at term_width w, scan_pairs s (at + (term_width + w)) w m)

total_pairs : (w m : ℕ) → total (pair_widths w m) ≡ m * (term_width + w)
unfolding total pair_widths
total_pairs w zero = sym (zero-mul (term_width + w))
total_pairs w (suc m) = rw (total_pairs w m, suc-mul m (term_width + w)) (omega arith)

fit_pairs : (w : ℕ) (ps : List Pair) → AllFit w ps → Fit (pair_widths w (length ps)) (pair_values ps)
unfolding pair_widths pair_values
fit_pairs w [] h = tt
fit_pairs w (p ∷ ps) h = (h.0, (h.1, fit_pairs w ps h.2))

same_pairs : (ps qs : List Pair) → pair_values ps ≡ pair_values qs → ps ≡ qs
unfolding pair_values
same_pairs [] [] e = refl
same_pairs [] (q ∷ qs) e = let z : ◌≡◌ {A = ℕ} 0 1 = cc in absurd (omega arith)
same_pairs (p ∷ ps) [] e = let z : ◌≡◌ {A = ℕ} 0 1 = cc in absurd (omega arith)
same_pairs (p ∷ ps) (q ∷ qs) e =
    let r : ps ≡ qs = same_pairs ps qs (cc) in
    let t : p.term ≡ q.term = cc in
    let a : p.amount ≡ q.amount = cc in
    λ i. record { term = t i; amount = a i } ∷ r i

pub length_pairs : (s : List ℕ) (at w m : ℕ) → length (pairs_at s at w m) ≡ m
unfolding pairs_at
length_pairs s at w zero = refl
length_pairs s at w (suc m) = ap suc (length_pairs s (at + (term_width + w)) w m)

pairs_fit : (s : List ℕ) (at w m : ℕ) → AllFit w (pairs_at s at w m)
unfolding pairs_at
pairs_fit s at w zero = tt
pairs_fit s at w (suc m) = (field_lt s at term_width, field_lt s (at + term_width) w, pairs_fit s (at + (term_width + w)) w m)

-- terms that rise: the first, and those after it
pub rises_parts : (least : ℕ) (p : Pair) (ps : List Pair) → rises least (p ∷ ps) ≡ true → (least ≤ p.term) × (rises (suc p.term) ps ≡ true)
unfolding rises
rises_parts least p ps e = let s = and_true (leb least p.term) (rises (suc p.term) ps) e in (leb-true least p.term s.0, s.1)

-- ---- bytes and what is read in them

-- the fields of these bytes before the pairs are the values, their pairs are ps, and the rest is zero fill
pub record Reads (s head : List ℕ) (w : ℕ) (values : List ℕ) (ps : List Pair) : Type 0 where
  pub long : length s ≡ bytes_for (bits_of head w (length ps))
  pub fields : scan s 0 head ≡ values
  pub pairs : pairs_at s (total head) w (length ps) ≡ ps
  pub fill : field s (bits_of head w (length ps)) (fill_after (bits_of head w (length ps))) ≡ 0

module _ (head : List ℕ) (w : ℕ) where
  -- the widths of the m pairs and of the fill, and of all fields
  abbrev tail : ℕ → List ℕ
  tail m = pair_widths w m ++ (fill_after (bits_of head w m) ∷ [])

  abbrev layout : ℕ → List ℕ
  layout m = head ++ tail m

  total_layout : (m : ℕ) → total (layout m) ≡ 8 * bytes_for (bits_of head w m)
  unfolding total
  total_layout m = rw (total_append head (tail m), total_append (pair_widths w m) (fill_after (bits_of head w m) ∷ []), total_pairs w m) (omega arith)

  module _ (values : List ℕ) (ps : List Pair) where
    pub encode_length : length (written head w values ps) ≡ bytes_for (bits_of head w (length ps))
    unfolding written
    encode_length = length_pack (bytes_for (bits_of head w (length ps))) _

    -- what is read in the fields of the layout
    abbrev all : List ℕ
    all = values ++ (pair_values ps ++ (0 ∷ []))

    fit_all : Fit head values → AllFit w ps → Fit (layout (length ps)) all
    fit_all h k = fit_append head _ values _ h
        (fit_append (pair_widths w (length ps)) _ (pair_values ps) _ (fit_pairs w ps k) (pow_pos (fill_after (bits_of head w (length ps))), tt))

    scan_written : Fit head values → AllFit w ps → scan (written head w values ps) 0 (layout (length ps)) ≡ all
    unfolding written
    scan_written h k = scan_spell (bytes_for (bits_of head w (length ps))) (layout (length ps)) all (fit_all h k) (total_layout (length ps))

    -- what was written is read
    pub written_reads : Fit head values → AllFit w ps → Reads (written head w values ps) head w values ps
    unfolding scan
    written_reads h k =
        let s : List ℕ = written head w values ps in
        let m : ℕ = length ps in
        let p = scan_parts s 0 head (tail m) values (pair_values ps ++ (0 ∷ [])) h (scan_written h k) in
        let rest : scan s (total head) (tail m) ≡ pair_values ps ++ (0 ∷ []) = rw (zero-add (total head)) at p.1 in
        let q = scan_parts s (total head) (pair_widths w m) (fill_after (bits_of head w m) ∷ []) (pair_values ps) (0 ∷ []) (fit_pairs w ps k) rest in
        let last = rw (total_pairs w m) at q.1 in
        record {
          long = encode_length;
          fields = p.0;
          pairs = same_pairs (pairs_at s (total head) w m) ps (sym (scan_pairs s (total head) w m) ∙ q.0);
          fill = cc;
        }

    -- bytes are what is written of what is read in them
    pub reads_written : (s : List ℕ) → Bytes s → Reads s head w values ps → s ≡ written head w values ps
    unfolding written scan
    reads_written s h r =
        let m : ℕ = length ps in
        let whole : scan s 0 (layout m) ≡ all =
        rw (
          scan_append s 0 head (tail m),
          zero-add (total head),
          scan_append s (total head) (pair_widths w m) (fill_after (bits_of head w m) ∷ []),
          scan_pairs s (total head) w m,
          total_pairs w m,
          r.fields,
          r.pairs,
          r.fill,
        ) in
        sym (pack_scan s (layout m) h (total_layout m ∙ ap (λ (n : ℕ). 8 * n) (sym r.long))) ∙ ap₂ pack r.long (ap (spell (layout m)) whole)

-- ---- the checks of any kind

-- a claim about what a test picks, from the claim about both choices
pub by_test : (P : Shape → Type 0) (t : Bool) {x y : Shape} → (t ≡ true → P x) → (t ≡ false → P y) → P (cond t x y)
by_test P true h k = h refl
by_test P false h k = k refl

-- the same with the second choice first, for a refusal
pub or_refused : (P : Shape → Type 0) (t : Bool) {x y : Shape} → P y → (t ≡ true → P x) → P (cond t x y)
or_refused P t k h = by_test P t h (λ _. k)

pub check_reads : (s head : List ℕ) (w : ℕ) (values : List ℕ) (ps : List Pair) (make : List Pair → Frame) → Reads s head w values ps
    → positive ps ≡ true → rising ps ≡ true
    → check s head w (length ps) true (λ qs. accepted (make qs)) ≡ accepted (make ps)
unfolding check
check_reads s head w values ps make r p o =
    let b : ℕ = bits_of head w (length ps) in
    rw (eq-eqb (length s) (bytes_for b) r.long, eq-eqb (field s b (fill_after b)) 0 r.fill, r.pairs, p, o)

-- a refusal is one of `least` to 6 or 14, and a frame is as claimed
abbrev pub Judged : ℕ → (Frame → Type 0) → Shape → Type 0
Judged least Claim (refused r) = ((least ≤ r) × (r ≤ 6)) ⊎ (r ≡ 14)
Judged least Claim (accepted f) = Claim f

-- of the shape of s: the frame is valid, and s is its bytes
abbrev Sound : List ℕ → Shape → Type 0
Sound s = Judged 1 (λ f. Valid f × (Bytes s → s ≡ encode f))

module _ (s head : List ℕ) (w m : ℕ) where
  abbrev found : List Pair
  found = pairs_at s (total head) w m

  found_reads : length s ≡ bytes_for (bits_of head w m) → field s (bits_of head w m) (fill_after (bits_of head w m)) ≡ 0
      → Reads s head w (scan s 0 head) found
  found_reads size fill =
      let n : length found ≡ m = length_pairs s (total head) w m in
      record { long = rw n size; fields = refl; pairs = rw n; fill = rw n fill }

  check_sound : (known : Bool) (make : List Pair → Frame) → (positive found ≡ true → rising found ≡ true → Valid (make found))
      → (known ≡ true → encode (make found) ≡ written head w (scan s 0 head) found) → Sound s (check s head w m known (λ ps. accepted (make ps)))
  unfolding check
  check_sound known make valid is =
      let b : ℕ = bits_of head w m in
      or_refused (Sound s) (eqb (length s) (bytes_for b)) (inl (lit≤ tt, lit≤ tt))
      (λ size. or_refused (Sound s) (eqb (field s b (fill_after b)) 0) (inl (lit≤ tt, lit≤ tt))
      (λ fill. or_refused (Sound s) known (inr refl)
      (λ k. or_refused (Sound s) (positive found) (inl (lit≤ tt, lit≤ tt))
      (λ p. or_refused (Sound s) (rising found) (inl (lit≤ tt, lit≤ tt))
      (λ o. (
        valid p o,
        λ h. reads_written head w (scan s 0 head) found s h
            (found_reads (eqb-true (length s) (bytes_for b) size) (eqb-true (field s b (fill_after b)) 0 fill)) ∙ sym (is k),
      ))))))

-- the pairs that follow a field for their number less one
module _ (s : List ℕ) (at w n : ℕ) where
  less_one : length (pairs_at s at w (n + 1)) - 1 ≡ n
  less_one = rw (length_pairs s at w (n + 1)) (omega arith)

  pairs_valid : (most : ℕ) → n < most → positive (pairs_at s at w (n + 1)) ≡ true → rising (pairs_at s at w (n + 1)) ≡ true
      → Pairs w most (pairs_at s at w (n + 1))
  pairs_valid most h p o =
      record {
        least_one = omega (arith, length_pairs s at w (n + 1));
        at_most = omega (arith, length_pairs s at w (n + 1));
        fit = pairs_fit s at w (n + 1);
        above_zero = p;
        in_order = o;
      }

-- ---- the kinds

pub no_row_lem : (k : ℕ) → (k ≡ 1 → ⊥) → (k ≡ 2 → ⊥) → (k ≡ 3 → ⊥) → (k ≡ 4 → ⊥) → (k ≡ 5 → ⊥) → (k ≡ 6 → ⊥) → (k ≡ 7 → ⊥) → row_of k ≡ no_row
unfolding row_of
no_row_lem k a b c d e f g = rw (ne_eqb k 1 a, ne_eqb k 2 b, ne_eqb k 3 c, ne_eqb k 4 d, ne_eqb k 5 e, ne_eqb k 6 f, ne_eqb k 7 g)

-- a claim about every kind, from the claims about those with a row and about the others
pub by_kind : (P : ℕ → Type 0) → P 1 → P 2 → P 3 → P 4 → P 5 → P 6 → P 7 → ((k : ℕ) → row_of k ≡ no_row → P k) → (k : ℕ) → P k
by_kind P a b c d e f g h zero = h zero
    (no_row_lem zero (λ z. omega arith) (λ z. omega arith) (λ z. omega arith) (λ z. omega arith) (λ z. omega arith) (λ z. omega arith) (λ z. omega arith))
by_kind P a b c d e f g h (suc zero) = a
by_kind P a b c d e f g h (suc (suc zero)) = b
by_kind P a b c d e f g h (suc (suc (suc zero))) = c
by_kind P a b c d e f g h (suc (suc (suc (suc zero)))) = d
by_kind P a b c d e f g h (suc (suc (suc (suc (suc zero))))) = e
by_kind P a b c d e f g h (suc (suc (suc (suc (suc (suc zero)))))) = f
by_kind P a b c d e f g h (suc (suc (suc (suc (suc (suc (suc zero))))))) = g
by_kind P a b c d e f g h (suc (suc (suc (suc (suc (suc (suc (suc k)))))))) = h (suc (suc (suc (suc (suc (suc (suc (suc k))))))))
    (no_row_lem _ (λ z. omega arith) (λ z. omega arith) (λ z. omega arith) (λ z. omega arith) (λ z. omega arith) (λ z. omega arith) (λ z. omega arith))

-- ---- grades

-- a number that is a grade is its urgency's
pub level_of : (v : ℕ) → v ≤ 2 → level (urgency_of v) ≡ v
level_of zero h = refl
level_of (suc zero) h = refl
level_of (suc (suc zero)) h = refl
level_of (suc (suc (suc v))) h = absurd (omega arith)

pub level_most : (u : Urgency) → level u ≤ 2
level_most routine = lit≤ tt
level_most important = lit≤ tt
level_most vital = lit≤ tt

pub of_level : (u : Urgency) → urgency_of (level u) ≡ u
of_level routine = refl
of_level important = refl
of_level vital = refl

-- ---- bytes to frame, kind by kind

pub unknown_shape : (s : List ℕ) (k : ℕ) → row_of k ≡ no_row → shape_of_kind k s ≡ refused 2
unfolding shape_of_kind
unknown_shape s k e = rw e

-- a form of messages with an urgency, written with the number of pairs in a field of w bits
abbrev Spelled : ℕ → ℕ → (Urgency → Form) → Type 0
Spelled k w form =
    (t n : ℕ) (u : Urgency) (ps : List Pair) → encode (message t n (form u) ps) ≡ written_by (graded_by w) (k ∷ t ∷ n ∷ level u ∷ (length ps - 1) ∷ []) ps

graded_sound : (s : List ℕ) (k w : ℕ) (form : Urgency → Form) → ((u : Urgency) → 2 ^ w ≤ most_in (form u)) → Spelled k w form → field s 0 4 ≡ k
    → Sound s (check s (widths (graded_by w)) count_width (field s 58 w + 1) (leb (field s 56 2) 2 && true)
    (λ ps. accepted (message (field s 4 32) (field s 36 20) (form (urgency_of (field s 56 2))) ps)))
unfolding scan total
graded_sound s k w form most is e =
    let at : ℕ = total (widths (graded_by w)) in
    let u : Urgency = urgency_of (field s 56 2) in
    check_sound s (widths (graded_by w)) count_width (field s 58 w + 1) (leb (field s 56 2) 2 && true)
    (message (field s 4 32) (field s 36 20) (form u))
    (λ p o.
    record {
      time = field_lt s 4 32;
      serial = field_lt s 36 20;
      pairs = pairs_valid s at count_width (field s 58 w) (most_in (form u)) (lt_of_lt_of_le (field_lt s 58 w) (most u)) p o;
    })
    (λ known. rw (
      is _ _ _ _,
      e,
      less_one s at count_width (field s 58 w),
      level_of (field s 56 2) (leb-true (field s 56 2) 2 (and_true (leb (field s 56 2) 2) true known).0),
    ))

kind_sound : (s : List ℕ) (k : ℕ) → field s 0 4 ≡ k → Sound s (shape_of_kind k s)
unfolding shape_of_kind row_of frame_of encode scan total pairs_at grades_known
kind_sound s =
    by_kind (λ k. field s 0 4 ≡ k → Sound s (shape_of_kind k s))
    (λ e. check_sound s (widths message_row) count_width (field s 56 4 + 1) true (message (field s 4 32) (field s 36 20) ungraded)
    (λ p o.
    record {
      time = field_lt s 4 32;
      serial = field_lt s 36 20;
      pairs = pairs_valid s 60 count_width (field s 56 4) (most_in ungraded) (field_lt s 56 4) p o;
    })
    (λ _. rw (e, less_one s 60 count_width (field s 56 4))))
    (λ e. check_sound s (widths tick_row) 0 0 true (λ _. tick (field s 4 32)) (λ _ _. field_lt s 4 32) (λ _. rw e))
    (λ e. check_sound s (widths register_row) weight_width (field s 45 3 + 1) true (register (field s 4 32) (field s 36 5) (field s 41 4 + 1))
    (λ p o. record {
      time = field_lt s 4 32;
      number = field_lt s 36 5;
      k_least = omega arith;
      k_most = omega (arith, field_lt s 41 4);
      terms = pairs_valid s 48 weight_width (field s 45 3) most_terms (field_lt s 45 3) p o;
    })
    (λ _. rw (e, less_one s 48 weight_width (field s 45 3), add-sub_cancel (field s 41 4) 1)))
    (λ e. check_sound s (widths unregister_row) 0 0 true (λ _. unregister (field s 4 32) (field s 36 5))
    (λ _ _. (field_lt s 4 32, field_lt s 36 5)) (λ _. rw e))
    (λ e. check_sound s (widths cancel_row) 0 0 true (λ _. cancel (field s 4 32) (field s 36 20)) (λ _ _. (field_lt s 4 32, field_lt s 36 20)) (λ _. rw e))
    (graded_sound s 6 pairs_width graded (λ _. lit≤ tt) (λ t n u ps. refl))
    (graded_sound s 7 long_pairs_width long (λ _. lit≤ tt) (λ t n u ps. refl))
    (λ k none e. rw (unknown_shape s k none) (inl (lit≤ tt, lit≤ tt)))

shape_sound : (s : List ℕ) → Sound s (shape s)
unfolding shape
shape_sound s = by_test (Sound s) (ltb (length s) 5) (λ _. inl (lit≤ tt, lit≤ tt)) (λ _. kind_sound s (field s 0 4) refl)

pub shape_number : (s : List ℕ) (r : ℕ) → shape s ≡ refused r → ((1 ≤ r) × (r ≤ 6)) ⊎ (r ≡ 14)
shape_number s r e = subst (Sound s) e (shape_sound s)

pub shape_valid : (s : List ℕ) (f : Frame) → shape s ≡ accepted f → Valid f
shape_valid s f e = (subst (Sound s) e (shape_sound s)).0

pub encode_shape : (s : List ℕ) (f : Frame) → Bytes s → shape s ≡ accepted f → s ≡ encode f
encode_shape s f b e = (subst (Sound s) e (shape_sound s)).1 b

-- ---- frame to bytes, kind by kind

-- the value at a place of two equal lists
at : {l m : List ℕ} (i : ℕ) → l ≡ m → get_or l i 0 ≡ get_or m i 0
at i e = ap (λ (x : List ℕ). get_or x i 0) e

-- a number from the field that says one less
more : {n m : ℕ} → n ≡ m - 1 → 1 ≤ m → n + 1 ≡ m
more e h = omega arith

-- an urgency from the field that says its number
grade_read : {n : ℕ} (u : Urgency) → n ≡ level u → (leb n 2 && true) ≡ true
grade_read {n} u e = rw (le-leb n 2 (omega (arith, level_most u)))

urgency_read : {n : ℕ} (u : Urgency) → n ≡ level u → urgency_of n ≡ u
urgency_read u e = ap urgency_of e ∙ of_level u

-- what is written with these values after the kind is accepted, if they lead to the check of the pairs
accepts : (k : ℕ) (head : List ℕ) (w : ℕ) (values : List ℕ) (ps : List Pair) (make : List Pair → Frame) → 29 ≤ total head
    → Fit (4 ∷ head) (k ∷ values) → AllFit w ps → positive ps ≡ true → rising ps ≡ true
    → ((s : List ℕ) → scan s 0 (4 ∷ head) ≡ k ∷ values → shape_of_kind k s ≡ check s (4 ∷ head) w (length ps) true (λ qs. accepted (make qs)))
    → shape (written (4 ∷ head) w (k ∷ values) ps) ≡ accepted (make ps)
unfolding shape total scan
accepts k head w values ps make five fit all_fit p o is =
    let s : List ℕ = written (4 ∷ head) w (k ∷ values) ps in
    let r : Reads s (4 ∷ head) w (k ∷ values) ps = written_reads (4 ∷ head) w (k ∷ values) ps fit all_fit in
    rw (le-ltb (length s) 5 (omega arith), at 0 r.fields, is s r.fields) (check_reads s (4 ∷ head) w (k ∷ values) ps make r p o)

graded_encode : (k w : ℕ) (form : Urgency → Form) → k < 16
    → ((s : List ℕ) → shape_of_kind k s ≡ check s (widths (graded_by w)) count_width (field s 58 w + 1) (leb (field s 56 2) 2 && true)
    (λ ps. accepted (message (field s 4 32) (field s 36 20) (form (urgency_of (field s 56 2))) ps)))
    → (t n : ℕ) (u : Urgency) (ps : List Pair) → t < 2 ^ 32 → n < 2 ^ 20 → Pairs count_width (2 ^ w) ps
    → shape (written_by (graded_by w) (k ∷ t ∷ n ∷ level u ∷ (length ps - 1) ∷ []) ps) ≡ accepted (message t n (form u) ps)
unfolding scan total
graded_encode k w form small is t n u ps ht hn p =
    let few : level u ≤ 2 = level_most u in
    let l = p.least_one in
    let m = p.at_most in
    accepts k _ count_width _ ps (message t n (form u)) (omega arith) (small, (ht, (hn, (omega arith, (omega arith, tt)))))
    p.fit p.above_zero p.in_order
    (λ s e. is s ∙ λ i. check s (widths (graded_by w)) count_width (more (at 4 e) p.least_one i) (grade_read u (at 3 e) i)
    (λ qs. accepted (message (at 1 e i) (at 2 e i) (form (urgency_read u (at 3 e) i)) qs)))

pub shape_encode : (f : Frame) → Valid f → shape (encode f) ≡ accepted f
unfolding encode scan total shape_of_kind row_of frame_of positive rises grades_known
shape_encode (message t n ungraded ps) v =
    let p = v.pairs in
    accepts 1 _ count_width _ ps (message t n ungraded) (lit≤ tt) (lit< tt, (v.time, (v.serial, (omega arith, tt)))) p.fit p.above_zero p.in_order
    (λ s e i. check s (widths message_row) count_width (more (at 3 e) p.least_one i) true (λ qs. accepted (message (at 1 e i) (at 2 e i) ungraded qs)))
shape_encode (message t n (graded u) ps) v =
    graded_encode 6 pairs_width graded (lit< tt) (λ s. refl) t n u ps v.time v.serial v.pairs
shape_encode (message t n (long u) ps) v =
    graded_encode 7 long_pairs_width long (lit< tt) (λ s. refl) t n u ps v.time v.serial v.pairs
shape_encode (tick t) v =
    accepts 2 _ 0 _ [] (λ _. tick t) (lit≤ tt) (lit< tt, (v, tt)) tt refl refl
    (λ s e i. check s (widths tick_row) 0 0 true (λ _. accepted (tick (at 1 e i))))
shape_encode (register t n k ps) v =
    let p = v.terms in
    accepts 3 _ weight_width _ ps (register t n k) (lit≤ tt) (lit< tt, (v.time, (v.number, (omega arith, (omega arith, tt)))))
    p.fit p.above_zero p.in_order
    (λ s e i. check s (widths register_row) weight_width (more (at 4 e) p.least_one i) true
    (λ qs. accepted (register (at 1 e i) (at 2 e i) (more (at 3 e) v.k_least i) qs)))
shape_encode (unregister t n) v =
    accepts 4 _ 0 _ [] (λ _. unregister t n) (lit≤ tt) (lit< tt, (v.0, (v.1, tt))) tt refl refl
    (λ s e i. check s (widths unregister_row) 0 0 true (λ _. accepted (unregister (at 1 e i) (at 2 e i))))
shape_encode (cancel t n) v =
    accepts 5 _ 0 _ [] (λ _. cancel t n) (lit≤ tt) (lit< tt, (v.0, (v.1, tt))) tt refl refl
    (λ s e i. check s (widths cancel_row) 0 0 true (λ _. accepted (cancel (at 1 e i) (at 2 e i))))

-- no form has room for more pairs than a message can have
pub form_most : (g : Form) → most_in g ≤ most_pairs
form_most ungraded = lit≤ tt
form_most (graded u) = lit≤ tt
form_most (long u) = lit≤ tt

-- no frame is longer than a long message of as many pairs as one can have
pub encode_most : (f : Frame) → Valid f → length (encode f) ≤ bytes_for (bits_of (widths long_row) count_width most_pairs)
unfolding encode total
encode_most (message t s ungraded ps) v =
    let m = v.pairs.at_most in omega (arith, encode_length (widths message_row) count_width (1 ∷ t ∷ s ∷ (length ps - 1) ∷ []) ps)
encode_most (message t s (graded u) ps) v =
    let m = v.pairs.at_most in omega (arith, encode_length (widths graded_row) count_width (6 ∷ t ∷ s ∷ level u ∷ (length ps - 1) ∷ []) ps)
encode_most (message t s (long u) ps) v =
    let m = v.pairs.at_most in omega (arith, encode_length (widths long_row) count_width (7 ∷ t ∷ s ∷ level u ∷ (length ps - 1) ∷ []) ps)
encode_most (tick t) v = omega (arith, encode_length (widths tick_row) 0 (2 ∷ t ∷ []) [])
encode_most (register t n k ps) v =
    let m = v.terms.at_most in omega (arith, encode_length (widths register_row) weight_width (3 ∷ t ∷ n ∷ (k - 1) ∷ (length ps - 1) ∷ []) ps)
encode_most (unregister t n) v = omega (arith, encode_length (widths unregister_row) 0 (4 ∷ t ∷ n ∷ []) [])
encode_most (cancel t s) v = omega (arith, encode_length (widths cancel_row) 0 (5 ∷ t ∷ s ∷ []) [])
