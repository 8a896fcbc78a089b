-- Laws of the fields before the pairs, for any widths: as they are read, judged and written one after the other. Assumes nothing.
use Prim.Native.Nat.{ℕ, zero, suc, ◌+◌, ◌-◌, ◌*◌, ◌^◌, ◌≤◌, ◌<◌}
use native.Mathlib.Nat.{not-suc-le-zero, le_of_suc-le-suc, mul-le-mul}
use native.Mathlib.Numerals.{add-one}
use native.Mathlib.Omega.{arith}
use mathlib.Core.Path.{◌≡◌, refl, sym, ap, ◌∙◌, subst}
use mathlib.Core.Bool.{Bool, true, false, ◌&&◌, and-true}
use mathlib.Core.List.{List, [], ◌∷◌, ◌++◌, map, append-nil}
use lib.ListN.{length, take, drop, get_or, set}
use lib.Seq.{take-suc, drop-cons, length-take-le}
use lib.Dec.{eqb, leb, ltb, lit≤, lit<}
use lib.Pow.{pow_mono}
use borrow.Author.Tests.{eqb-true, eqb-false, ne_eqb, ltb-true, leb-true, leb-false, lt-ltb, le-ltb, le-leb, lt-leb}
use Rattle.std.specs.Prelude.{Ok}
use Rattle.wire.specs.Bits.{bits, unpack}
use Rattle.wire.specs.Field.{field, placed, total, spell, scan}
use Rattle.wire.proofs.BitLaws.{length_bits}
use Rattle.wire.proofs.FieldLaws.{field_lt}
use Rattle.wire.proofs.LayoutLaws.{total_append, scan_append, spell_append}
use Rattle.paper.specs.Frame.{Pair, Urgency, Form, Field, Fields, Row as TableRow, urgency_of, kind_of, grade_of, kind_width, width, widths, row_of, values_at}
use Rattle.paper.specs.Frame.{pairs_by, message_row, tick_row, register_row, unregister_row, cancel_row, graded_by, no_row, grade_known, grades_known}
use Rattle.paper.specs.Frame.{frame_of, term_width, pairs_width, long_pairs_width, most_pairs}
use Rattle.paper.specs.Frame.Field.{plain, less_one as lessOneField, grade}
use Rattle.paper.specs.Frame.Form.{graded, long}
use Rattle.paper.specs.Frame.Frame.{message}
use Rattle.paper.specs.Frame.Shape.{refused, accepted}
use Rattle.paper.specs.Write.{within, head_within}
use Rattle.paper.proofs.FrameLaws.{no_row_lem, by_kind, level_of}
use Rattle.paper.proofs.WriteLaws.{and_left, and_right}
use Rattle.frame.specs.declared.Kind.TheVariants.{Message}
use Rattle.frame.specs.declared.Row.{Row}
use Rattle.frame.specs.Read.{Narrow, RowPost, FramedPost, padded}
use Rattle.frame.specs.Write.{ValuesPost, fitting, less_one, laid}
use Rattle.frame.proofs.LaidLaws.{laid_field, laid_then, spell_length}
use Rattle.frame.proofs.PairLaws.{padded_more}

-- ---- the rows

-- what the arrays of fields and of pairs have room for
pub record Small (s : List ℕ) (row : TableRow) : Type 0 where
  pub places : length row.head ≤ 5
  pub narrow : Narrow (map width row.head)
  pub short : total (widths row) ≤ 63
  pub light : row.amount ≤ 8
  pub few : pairs_by row (values_at s row) ≤ most_pairs
  pub third : get_or (values_at s row) 2 0 < 16

graded_small : (s : List ℕ) (w : ℕ) → w ≤ long_pairs_width → Small s (graded_by w)
unfolding total scan
graded_small s w h =
    let most : 2 ^ w ≤ most_pairs = pow_mono h in
    record {
      places = lit≤ tt;
      narrow = (lit≤ tt, (lit≤ tt, (lit≤ tt, (omega arith, tt))));
      short = omega arith;
      light = lit≤ tt;
      few = omega (arith, field_lt s 58 w);
      third = omega (arith, field_lt s 56 2);
    }

pub small : (s : List ℕ) (k : ℕ) → Small s (row_of k)
unfolding row_of total scan
small s =
    by_kind (λ k. Small s (row_of k))
    (record {
      places = lit≤ tt;
      narrow = (lit≤ tt, (lit≤ tt, (lit≤ tt, tt)));
      short = lit≤ tt;
      light = lit≤ tt;
      few = omega (arith, field_lt s 56 4);
      third = field_lt s 56 4;
    })
    (record { places = lit≤ tt; narrow = (lit≤ tt, tt); short = lit≤ tt; light = lit≤ tt; few = lit≤ tt; third = lit< tt })
    (record {
      places = lit≤ tt;
      narrow = (lit≤ tt, (lit≤ tt, (lit≤ tt, (lit≤ tt, tt))));
      short = lit≤ tt;
      light = lit≤ tt;
      few = omega (arith, field_lt s 45 3);
      third = field_lt s 41 4;
    })
    (record { places = lit≤ tt; narrow = (lit≤ tt, (lit≤ tt, tt)); short = lit≤ tt; light = lit≤ tt; few = lit≤ tt; third = lit< tt })
    (record { places = lit≤ tt; narrow = (lit≤ tt, (lit≤ tt, tt)); short = lit≤ tt; light = lit≤ tt; few = lit≤ tt; third = lit< tt })
    (graded_small s pairs_width (lit≤ tt))
    (graded_small s long_pairs_width (lit≤ tt))
    (λ k none. subst (Small s) (sym none) (record { places = lit≤ tt; narrow = tt; short = lit≤ tt; light = lit≤ tt; few = lit≤ tt; third = lit< tt }))

-- a row with a table row's fields is that row
pub row_as : (row : TableRow) (r : Row) → (r.bits ≡ total (widths row)) × (r.widths.now ≡ map width row.head) × (r.amount ≡ row.amount) → RowPost row r
row_as row r e = record { bits = e.0; widths = e.1; amount = e.2 }

-- ---- widths

pub narrow_at : (ws : List ℕ) (i : ℕ) → Narrow ws → get_or ws i 0 ≤ 32
narrow_at [] i h = lit≤ tt
narrow_at (w ∷ ws) zero h = h.0
narrow_at (w ∷ ws) (suc i) h = narrow_at ws i h.1

-- a field ends before the end of all
pub total_turn : (ws : List ℕ) (i : ℕ) → i < length ws → total (take i ws) + get_or ws i 0 ≤ total ws
unfolding total
total_turn [] i l = absurd (not-suc-le-zero l)
total_turn (w ∷ ws) zero l = omega arith
total_turn (w ∷ ws) (suc i) l =
    let r = total_turn ws i (le_of_suc-le-suc l) in omega arith

-- a turn's field is narrow, and ends before the end of all
pub field_room : (ws : List ℕ) (at next i : ℕ) → Narrow ws → i < length ws → next ≡ at + total (take i ws)
    → (get_or ws i 0 ≤ 32) × (next + get_or ws i 0 ≤ at + total ws)
field_room ws at next i h l e = (narrow_at ws i h, omega (arith, total_turn ws i l))

-- one field more
pub total_more : (ws : List ℕ) (i : ℕ) → i < length ws → total (take (i + 1) ws) ≡ total (take i ws) + get_or ws i 0
unfolding total
total_more ws i h = rw (add-one i, take-suc ws i 0 h, total_append (take i ws) (get_or ws i 0 ∷ [])) (omega arith)

-- ---- values that are read

length_scan : (s : List ℕ) (at : ℕ) (ws : List ℕ) → length (scan s at ws) ≡ length ws
unfolding scan
length_scan s at [] = refl
length_scan s at (w ∷ ws) = ap suc (length_scan s (at + w) ws)

-- one value more
pub values_turn : (s : List ℕ) (at : ℕ) (ws a : List ℕ) (i next x : ℕ) → i < length ws → i < 5 → next ≡ at + total (take i ws)
    → a ≡ padded 5 (scan s at (take i ws)) → x ≡ field s next (get_or ws i 0) → set a i x ≡ padded 5 (scan s at (take (i + 1) ws))
unfolding scan
values_turn s at ws a i next x h five n e v =
    let before : List ℕ = scan s at (take i ws) in
    let found : ℕ = field s (at + total (take i ws)) (get_or ws i 0) in
    let k : length before ≡ i = length_scan s at (take i ws) ∙ length-take-le i ws (omega arith) in
    rw (e, v, n, add-one i, take-suc ws i 0 h, scan_append s at (take i ws) (get_or ws i 0 ∷ []))
    (sym (padded_more 5 before found (omega arith) ∙ ap (λ (j : ℕ). set (padded 5 before) j found) k))

pub get_d_padded : (n : ℕ) (xs : List ℕ) (i : ℕ) → i < n → get_or (padded n xs) i 0 ≡ get_or xs i 0
get_d_padded zero xs i h = absurd (not-suc-le-zero h)
get_d_padded (suc n) [] zero h = refl
get_d_padded (suc n) [] (suc i) h = get_d_padded n [] i (le_of_suc-le-suc h)
get_d_padded (suc n) (x ∷ xs) zero h = refl
get_d_padded (suc n) (x ∷ xs) (suc i) h = get_d_padded n xs i (le_of_suc-le-suc h)

pub frame_padded : (kind : ℕ) (vs : List ℕ) (ps : List Pair) → frame_of kind (padded 5 vs) ps ≡ frame_of kind vs ps
unfolding frame_of
frame_padded kind vs ps = rw (get_d_padded 5 vs 0 (lit< tt), get_d_padded 5 vs 1 (lit< tt), get_d_padded 5 vs 2 (lit< tt))

-- a place past the values is 0, which is a grade
zero_known : (x : Field) → grade_known x 0 ≡ true
zero_known (plain of w) = refl
zero_known (lessOneField of w) = refl
zero_known (grade of w) = refl

pub grades_padded : (xs : List Field) (n : ℕ) (vs : List ℕ) → length xs ≤ n → grades_known xs (padded n vs) ≡ grades_known xs vs
unfolding grades_known
grades_padded [] n vs h = refl
grades_padded (x ∷ xs) zero vs h = absurd (not-suc-le-zero h)
grades_padded (x ∷ xs) (suc n) [] h = rw (zero_known x, grades_padded xs n [] (le_of_suc-le-suc h)) (none xs)
  where
    none : (ys : List Field) → grades_known ys [] ≡ true
    none [] = refl
    none (y ∷ ys) = refl
grades_padded (x ∷ xs) (suc n) (v ∷ vs) h = ap (λ (t : Bool). grade_known x v && t) (grades_padded xs n vs (le_of_suc-le-suc h))

-- fields of which none is a grade
abbrev Gradeless : List Field → Type 0
Gradeless [] = Unit {0}
Gradeless (x ∷ xs) = ((v : ℕ) → grade_known x v ≡ true) × Gradeless xs

none_graded : (xs : List Field) (vs : List ℕ) → Gradeless xs → grades_known xs vs ≡ true
unfolding grades_known
none_graded [] vs h = refl
none_graded (x ∷ xs) [] h = refl
none_graded (x ∷ xs) (v ∷ vs) h = rw (h.0 v, none_graded xs vs h.1)

-- kinds 6 and 7 are messages with a grade
pub record GradedKind (k : ℕ) : Type 0 where
  pub width : ℕ
  pub small : width ≤ long_pairs_width
  pub form : Urgency → Form
  pub row : row_of k ≡ graded_by width
  pub frame : (vs : List ℕ) (ps : List Pair) → frame_of k vs ps ≡ accepted (message (get_or vs 0 0) (get_or vs 1 0) (form (urgency_of (get_or vs 2 0))) ps)
  pub grade : (u : Urgency) → (kind_of (form u) ≡ k) × (grade_of (form u) ≡ u)

pub graded_kind : (k : ℕ) → 6 ≤ k → k ≤ 7 → GradedKind k
unfolding row_of frame_of
graded_kind k h l = go (eqb k 6) refl
  where
    go : (b : Bool) → eqb k 6 ≡ b → GradedKind k
    go true e =
        rw (eqb-true k 6 e) (record { width = pairs_width; small = lit≤ tt; form = graded; row = refl; frame = λ vs ps. refl; grade = λ u. (refl, refl) })
    go false e =
        let seven : k ≡ 7 = let n = eqb-false k 6 e in omega arith in
        rw seven (record { width = long_pairs_width; small = lit≤ tt; form = long; row = refl; frame = λ vs ps. refl; grade = λ u. (refl, refl) })

-- a kind that is none of the seven
pub record NoKind (k : ℕ) : Type 0 where
  pub row : row_of k ≡ no_row
  pub frame : (vs : List ℕ) (ps : List Pair) → frame_of k vs ps ≡ refused 2

pub no_kind : (k : ℕ) → (k ≡ 1 → ⊥) → (k ≡ 2 → ⊥) → (k ≡ 3 → ⊥) → (k ≡ 4 → ⊥) → (k ≡ 5 → ⊥) → (6 ≤ k → k ≤ 7 → ⊥) → NoKind k
unfolding frame_of
no_kind k a b c d e none =
    let f : k ≡ 6 → ⊥ = λ z. none (omega arith) (omega arith) in
    let g : k ≡ 7 → ⊥ = λ z. none (omega arith) (omega arith) in
    record {
      row = no_row_lem k a b c d e f g;
      frame = λ vs ps. rw (ne_eqb k 1 a, ne_eqb k 2 b, ne_eqb k 3 c, ne_eqb k 4 d, ne_eqb k 5 e, ne_eqb k 6 f, ne_eqb k 7 g);
    }

-- no other kind than 6 and 7 has a grade
pub grade_none : (vs : List ℕ) (k : ℕ) → (6 ≤ k → k ≤ 7 → ⊥) → grades_known (row_of k).head vs ≡ true
unfolding row_of grades_known
grade_none vs =
    by_kind (λ k. (6 ≤ k → k ≤ 7 → ⊥) → grades_known (row_of k).head vs ≡ true)
    (λ _. none_graded message_row.head vs ((λ v. refl), ((λ v. refl), ((λ v. refl), tt))))
    (λ _. none_graded tick_row.head vs ((λ v. refl), tt))
    (λ _. none_graded register_row.head vs ((λ v. refl), ((λ v. refl), ((λ v. refl), ((λ v. refl), tt)))))
    (λ _. none_graded unregister_row.head vs ((λ v. refl), ((λ v. refl), tt)))
    (λ _. none_graded cancel_row.head vs ((λ v. refl), ((λ v. refl), tt)))
    (λ h. absurd (h (lit≤ tt) (lit≤ tt)))
    (λ h. absurd (h (lit≤ tt) (lit≤ tt)))
    (λ k none _. rw none)

third_known : (w : ℕ) (vs : List ℕ) → grades_known (graded_by w).head vs ≡ leb (get_or vs 2 0) 2
unfolding grades_known
third_known w [] = refl
third_known w (a ∷ []) = refl
third_known w (a ∷ b ∷ []) = refl
third_known w (a ∷ b ∷ c ∷ []) = and-true (leb c 2)
third_known w (a ∷ b ∷ c ∷ d ∷ vs) = and-true (leb c 2)

pub grade_third : {k : ℕ} → GradedKind k → (vs : List ℕ) → grades_known (row_of k).head vs ≡ leb (get_or vs 2 0) 2
grade_third g vs = rw g.row (third_known g.width vs)

-- the answer to a message with a grade that is one of the three
pub graded_answer : {k : ℕ} → GradedKind k → (vs : List ℕ) (m : ℕ) → FramedPost k vs m (Ok (Message k (get_or vs 0 0) (get_or vs 1 0) (get_or vs 2 0) m))
graded_answer g vs m = λ ps known em.
    let u = urgency_of (get_or vs 2 0) in
    let few : get_or vs 2 0 ≤ 2 = leb-true (get_or vs 2 0) 2 (sym (grade_third g vs) ∙ known) in
    (message (get_or vs 0 0) (get_or vs 1 0) (g.form u) ps, g.frame vs ps, rw ((g.grade u).0, (g.grade u).1, level_of (get_or vs 2 0) few, em))

pub pairs_light : (m w : ℕ) → m ≤ most_pairs → w ≤ 8 → m * (term_width + w) ≤ 576
pairs_light m w h k = mul-le-mul {m₂ = 18} h (omega arith)

-- ---- values that are judged

-- the next of what is left
pub fit_next : (ws vs : List ℕ) (i : ℕ) → i < length ws → i < length vs
    → fitting (drop i ws) (drop i vs) ≡ ltb (get_or vs i 0) (2 ^ get_or ws i 0) && fitting (drop (i + 1) ws) (drop (i + 1) vs)
unfolding fitting
fit_next ws vs i h k = rw (drop-cons ws i 0 h, drop-cons vs i 0 k, add-one i)

-- a number less one has few enough bits exactly if it is in range, and is then what is written
pub less_fits : (n w : ℕ) → w ≤ 8 → ltb (less_one n) (2 ^ w) ≡ within (2 ^ w) n
less_fits n w h = go (ltb 0 n) refl (leb n 256) refl
  where
    p : 2 ^ w ≤ 2 ^ 8
    p = pow_mono h

    go : (a : Bool) → ltb 0 n ≡ a → (b : Bool) → leb n 256 ≡ b → ltb (less_one n) (2 ^ w) ≡ within (2 ^ w) n
    go false ea b eb = rw ea (le-ltb (2 ^ 32 - 1) (2 ^ w) (omega (arith, p)))
    go true ea false eb = rw (ea, eb, lt-leb n (2 ^ w) (omega (arith, p, leb-false n 256 eb))) (le-ltb (2 ^ 32 - 1) (2 ^ w) (omega (arith, p)))
    go true ea true eb = rw (ea, eb) (same (leb n (2 ^ w)) refl)
      where
        same : (c : Bool) → leb n (2 ^ w) ≡ c → ltb (n - 1) (2 ^ w) ≡ leb n (2 ^ w)
        same true ec = rw ec (lt-ltb (n - 1) (2 ^ w) (omega (arith, ltb-true 0 n ea, leb-true n (2 ^ w) ec)))
        same false ec = rw ec (le-ltb (n - 1) (2 ^ w) (omega (arith, leb-false n (2 ^ w) ec)))

less_is : (n : ℕ) → 0 < n → n ≤ 256 → less_one n ≡ n - 1
less_is n h k = rw (lt-ltb 0 n h, le-leb n 256 k)

pub less_within : (n w : ℕ) → w ≤ 8 → within (2 ^ w) n ≡ true → less_one n ≡ n - 1
less_within n w h e =
    let p : 2 ^ w ≤ 2 ^ 8 = pow_mono h in
    let l : 0 < n = ltb-true 0 n (and_left (ltb 0 n) (leb n (2 ^ w)) e) in
    let m : n ≤ 2 ^ w = leb-true n (2 ^ w) (and_right (ltb 0 n) (leb n (2 ^ w)) e) in
    less_is n l (omega arith)

-- the values of the fields of a message with a grade
pub graded_values : (x : Fields) (values : List ℕ) → GradedKind x.kind → values ≡ x.time ∷ x.serial ∷ x.urgency ∷ less_one x.pairs ∷ 0 ∷ []
    → ValuesPost x values
unfolding grades_known fitting head_within
graded_values x values g e =
    let w = g.width in
    let few : w ≤ 8 = let h = g.small in omega arith in
    record {
      grades = rw (g.row, e);
      fit = rw (g.row, e, less_fits x.pairs w few);
      are = λ t.
          let h : head_within (graded_by w).head x ≡ true = rw g.row at t in
          rw (g.row, e, less_within x.pairs w few (search (and_left, and_right)));
    }

-- ---- values that are written

-- the kind, and then the values after it
pub head_laid : (s t u ws vs : List ℕ) (kind : ℕ) → unpack t ≡ placed s 0 kind_width kind → unpack u ≡ laid t kind_width (spell ws vs)
    → unpack u ≡ laid s 0 (spell (kind_width ∷ ws) (kind ∷ vs))
unfolding spell
head_laid s t u ws vs kind et eu =
    laid_then s t u 0 kind_width (bits kind_width kind) (spell ws vs) (omega arith) (omega (arith, length_bits kind_width kind))
    (et ∙ laid_field s 0 kind_width kind) eu

-- one value more
pub fields_turn : (s t u ws vs : List ℕ) (at i next : ℕ) → at ≤ 8 * length s → i < length ws → i < length vs → next ≡ at + total (take i ws)
    → unpack t ≡ laid s at (spell (take i ws) (take i vs)) → unpack u ≡ placed t next (get_or ws i 0) (get_or vs i 0)
    → unpack u ≡ laid s at (spell (take (i + 1) ws) (take (i + 1) vs))
unfolding spell
fields_turn s t u ws vs at i next h hw hv n et eu =
    let w : ℕ = get_or ws i 0 in
    let v : ℕ = get_or vs i 0 in
    let before : List Bool = spell (take i ws) (take i vs) in
    let l : length (take i ws) ≡ length (take i vs) = length-take-le i ws (omega arith) ∙ sym (length-take-le i vs (omega arith)) in
    let more : spell (take (i + 1) ws) (take (i + 1) vs) ≡ before ++ bits w v =
    rw (add-one i, take-suc ws i 0 hw, take-suc vs i 0 hv, spell_append (take i ws) (w ∷ []) (take i vs) (v ∷ []) l, append-nil (bits w v)) in
    laid_then s t u at next before (bits w v) h (omega (arith, spell_length (take i ws) (take i vs) l)) et (eu ∙ laid_field t next w v)
    ∙ ap (laid s at) (sym more)
