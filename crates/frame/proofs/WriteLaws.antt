-- Laws of a frame that is written: its bits make its bytes, and its number says what is answered. Assumes nothing.
use Prim.Native.Nat.{ℕ, zero, suc, ◌+◌, ◌*◌, ◌≤◌, ◌<◌}
use native.Mathlib.Nat.{zero-mul, suc-mul, not-suc-le-zero, le_of_suc-le-suc, suc_inj, le_of_eq}
use native.Mathlib.Numerals.{add-one}
use native.Mathlib.Omega.{arith}
use mathlib.Core.Path.{◌≡◌, refl, sym, ap, ap₂, ◌∙◌}
use mathlib.Core.Bool.{Bool, true, false, cond, ◌&&◌}
use mathlib.Core.List.{List, [], ◌∷◌, ◌++◌, map, append_assoc, append-nil}
use lib.ListN.{length, take, drop, get_or, length-append, length-map}
use lib.Dec.{eqb, leb}
use Rattle.std.specs.Prelude.{Ok, Err}
use borrow.Author.Tests.{eqb-true, leb-true, lt-ltb, le-ltb, le-leb, lt-leb, ne_eqb}
use Rattle.wire.specs.Bits.{bits, unpack, pack, Bytes}
use Rattle.wire.specs.Field.{placed, spell, total}
use Rattle.wire.proofs.BitLaws.{length_bits}
use Rattle.wire.proofs.LayoutLaws.{spell_append}
use Rattle.paper.specs.Frame.{Pair, Frame, Fields, Shape, kind_width, row_of, width, widths, grades_known, frame_of, judged, pair_widths, pair_values}
use Rattle.paper.specs.Frame.{term_width, most_pairs, bits_of, bytes_for, fill_after, written, encode, rising}
use Rattle.paper.specs.Frame.Shape.{refused, accepted}
use Rattle.paper.specs.Write.{side_by_side, all_within, head_within, value_of, pairs_taken, pairs_within, pairs_of, from_kind, from_fields}
use Rattle.paper.specs.Refusal.{number_of}
use Rattle.paper.specs.declared.refusal.Refusal.{Refusal}
use Rattle.paper.specs.declared.refusal.Refusal.TheVariants.{Kind, Value, Memory, Urgency}
use Rattle.paper.proofs.Tests.{and_true}
use Rattle.frame.specs.declared.Row.{Row}
use Rattle.frame.specs.Read.{Narrow, RowPost, pairs_number}
use Rattle.frame.specs.Write.{WritePost, in_numbers, ValuesPost, PutPost, fitting, pairs_verdict, pair_bits, laid}
use Rattle.paper.proofs.FrameLaws.{encode_length}
use Rattle.paper.proofs.WriteLaws.{length_side, Made, made, taken_most}
use Rattle.frame.proofs.LaidLaws.{laid_field, laid_then, spell_length, pack_over}
use Rattle.frame.proofs.HeadLaws.{small, pairs_light}
use Rattle.frame.proofs.ReadLaws.{refusal_pos}

-- ---- the pairs that are handed over

-- pairs that nothing refuses are within their ranges, and their terms rise
pub none_refused : (sound : Bool) (ps : List Pair) → pairs_number sound ps ≡ 0 → (sound ≡ true) × (rising ps ≡ true)
unfolding pairs_number
none_refused sound ps e = go sound (rising ps) e
  where
    go : (a b : Bool) → ◌≡◌ {A = ℕ} (cond a (cond b 0 6) 5) 0 → (a ≡ true) × (b ≡ true)
    go true true e = (refl, refl)
    go true false e = absurd (omega arith)
    go false b e = absurd (omega arith)

-- there are then as many as are said
verdict_within : (w n : ℕ) (ts us : List ℕ) → pairs_verdict w n ts us ≡ 0 → (n ≤ length ts) × (n ≤ length us)
unfolding pairs_verdict
verdict_within w n ts us e =
    let k = and_true (leb n (length ts) && leb n (length us)) (all_within w (side_by_side n ts us)) (none_refused _ (side_by_side n ts us) e).0 in
    let l = and_true (leb n (length ts)) (leb n (length us)) k.0 in
    (leb-true n (length ts) l.0, leb-true n (length us) l.1)

-- ---- the bits of pairs

length_pair_bits : (w n : ℕ) (ts us : List ℕ) → n ≤ length ts → n ≤ length us → length (pair_bits w n ts us) ≡ n * (term_width + w)
unfolding pair_bits spell pair_widths pair_values side_by_side
length_pair_bits w zero ts us h k = sym (zero-mul (term_width + w))
length_pair_bits w (suc n) [] us h k = absurd (not-suc-le-zero h)
length_pair_bits w (suc n) (t ∷ ts) [] h k = absurd (not-suc-le-zero k)
length_pair_bits w (suc n) (t ∷ ts) (u ∷ us) h k =
    length-append (bits term_width t) (bits w u ++ pair_bits w n ts us)
    ∙ omega (
      arith,
      length_bits term_width t,
      length-append (bits w u) (pair_bits w n ts us),
      length_bits w u,
      length_pair_bits w n ts us (le_of_suc-le-suc h) (le_of_suc-le-suc k),
      suc-mul n (term_width + w),
    )

-- one pair more
pair_bits_more : (w i : ℕ) (ts us : List ℕ) → i < length ts → i < length us
    → pair_bits w (suc i) ts us ≡ pair_bits w i ts us ++ (bits term_width (get_or ts i 0) ++ bits w (get_or us i 0))
unfolding pair_bits spell pair_widths pair_values side_by_side
pair_bits_more w i [] us h k = absurd (not-suc-le-zero h)
pair_bits_more w i (t ∷ ts) [] h k = absurd (not-suc-le-zero k)
pair_bits_more w zero (t ∷ ts) (u ∷ us) h k = rw (append-nil (bits w u))
pair_bits_more w (suc i) (t ∷ ts) (u ∷ us) h k =
    let e = pair_bits_more w i ts us (le_of_suc-le-suc h) (le_of_suc-le-suc k) in
    ap (λ (l : List Bool). bits term_width t ++ (bits w u ++ l)) e ∙ simp append_assoc

-- a turn of the loop that puts them: t is the output before it, u with the term, v with the amount too
pub put_turn : (s t u v ts us : List ℕ) (at w i next : ℕ) → at ≤ 8 * length s → i < length ts → i < length us → next ≡ at + i * (term_width + w)
    → unpack t ≡ laid s at (pair_bits w i ts us) → unpack u ≡ placed t next term_width (get_or ts i 0)
    → unpack v ≡ placed u (next + term_width) w (get_or us i 0) → unpack v ≡ laid s at (pair_bits w (i + 1) ts us)
put_turn s t u v ts us at w i next h ht hu n et eu ev =
    let p : List Bool = pair_bits w i ts us in
    let a : List Bool = bits term_width (get_or ts i 0) in
    let b : List Bool = bits w (get_or us i 0) in
    let l : length p ≡ i * (term_width + w) = length_pair_bits w i ts us (omega arith) (omega arith) in
    let e : unpack u ≡ laid s at (p ++ a) = laid_then s t u at next p a h (omega arith) et (eu ∙ laid_field t next term_width (get_or ts i 0)) in
    let m : next + term_width ≡ at + length (p ++ a) = omega (arith, length-append p a, length_bits term_width (get_or ts i 0)) in
    laid_then s u v at (next + term_width) (p ++ a) b h m e (ev ∙ laid_field u (next + term_width) w (get_or us i 0))
    ∙ ap (laid s at) (append_assoc p a b ∙ sym (pair_bits_more w i ts us ht hu) ∙ ap (λ (k : ℕ). pair_bits w k ts us) (sym (add-one i)))

-- ---- the bytes of a frame

length_pair_widths : (w n : ℕ) (ps : List Pair) → length ps ≡ n → length (pair_widths w n) ≡ length (pair_values ps)
unfolding pair_widths pair_values
length_pair_widths w zero [] e = refl
length_pair_widths w zero (p ∷ ps) e = absurd (not-suc-le-zero (le_of_eq e))
length_pair_widths w (suc n) [] e = absurd (not-suc-le-zero (le_of_eq (sym e)))
length_pair_widths w (suc n) (p ∷ ps) e = ap (λ (k : ℕ). suc (suc k)) (length_pair_widths w n ps (suc_inj e))

-- the fields of a frame, one after the other
spell_frame : (head values : List ℕ) (w z n : ℕ) (ps : List Pair) → length head ≡ length values → length ps ≡ n
    → spell (head ++ (pair_widths w n ++ (z ∷ []))) (values ++ (pair_values ps ++ (0 ∷ [])))
    ≡ spell head values ++ spell (pair_widths w n) (pair_values ps) ++ bits z 0
unfolding spell
spell_frame head values w z n ps l e =
    let p : List Bool = spell (pair_widths w n) (pair_values ps) in
    spell_append head (pair_widths w n ++ (z ∷ [])) values (pair_values ps ++ (0 ∷ [])) l
    ∙ ap (λ (x : List Bool). spell head values ++ x)
    (spell_append (pair_widths w n) (z ∷ []) (pair_values ps) (0 ∷ []) (length_pair_widths w n ps e) ∙ ap (λ (x : List Bool). p ++ x) (append-nil (bits z 0)))
    ∙ sym (append_assoc (spell head values) p (bits z 0))

module _ (head values ts us : List ℕ) (w n : ℕ) (lh : length head ≡ length values) (ht : n ≤ length ts) (hu : n ≤ length us) where
  abbrev frame_bits : List Bool
  frame_bits = spell head values ++ pair_bits w n ts us ++ bits (fill_after (bits_of head w n)) 0

  before_fill : length (spell head values ++ pair_bits w n ts us) ≡ bits_of head w n
  before_fill =
      length-append (spell head values) (pair_bits w n ts us)
      ∙ ap₂ (λ (x y : ℕ). x + y) (spell_length head values lh) (length_pair_bits w n ts us ht hu)

  -- they are whole bytes
  length_frame_bits : length frame_bits ≡ 8 * bytes_for (bits_of head w n)
  length_frame_bits =
      length-append (spell head values ++ pair_bits w n ts us) (bits (fill_after (bits_of head w n)) 0)
      ∙ omega (arith, before_fill, length_bits (fill_after (bits_of head w n)) 0)

  -- what they pack to is the frame
  frame_bytes : pack (bytes_for (bits_of head w n)) frame_bits ≡ written head w values (side_by_side n ts us)
  unfolding pair_bits written
  frame_bytes =
      rw (length_side n ts us ht hu, spell_frame head values w (fill_after (bits_of head w n)) n (side_by_side n ts us) lh (length_side n ts us ht hu))

  -- a head of any fields, the pairs and the fill, written one after the other over s, are the frame and what stood past it
  pub puts : (s t u v : List ℕ) → bytes_for (bits_of head w n) ≤ length s → length v ≡ length s → Bytes s → Bytes v
      → unpack t ≡ laid s 0 (spell head values) → unpack u ≡ laid t (total head) (pair_bits w n ts us)
      → unpack v ≡ placed u (bits_of head w n) (fill_after (bits_of head w n)) 0
      → PutPost (written head w values (side_by_side n ts us)) s v (bytes_for (bits_of head w n))
  unfolding laid
  puts s t u v room lv hs hv et eu ev =
      let e₁ : unpack u ≡ laid s 0 (spell head values ++ pair_bits w n ts us) =
      laid_then s t u 0 (total head) (spell head values) (pair_bits w n ts us) (omega arith) (omega (arith, spell_length head values lh)) et eu in
      let z : ℕ = fill_after (bits_of head w n) in
      let e₂ : unpack v ≡ laid s 0 frame_bits =
      laid_then s u v 0 (bits_of head w n) (spell head values ++ pair_bits w n ts us) (bits z 0) (omega arith) (omega (arith, before_fill)) e₁
      (ev ∙ laid_field u (bits_of head w n) z 0) in
      let l : 0 + length frame_bits ≡ 8 * bytes_for (bits_of head w n) = omega (arith, length_frame_bits) in
      record {
        size = sym (encode_length head w values (side_by_side n ts us) ∙ rw (length_side n ts us ht hu));
        put =
            pack_over (bytes_for (bits_of head w n)) s v frame_bits lv room length_frame_bits hs hv (e₂ ∙ ap (λ (k : ℕ). frame_bits ++ drop k (unpack s)) l)
            ∙ ap (λ (x : List ℕ). x ++ drop (bytes_for (bits_of head w n)) s) frame_bytes;
      }

-- ---- what is answered

refused_post : (s : List ℕ) (e : Refusal) → WritePost (refused (number_of e)) s s (in_numbers (Err e))
refused_post s e = record {
  number = refl;
  size = rw (ne_eqb (number_of e) 0 (refusal_pos e));
  bytes = rw (ne_eqb (number_of e) 0 (refusal_pos e));
}

-- 12
short_post : (f : Frame) (s : List ℕ) → length s < length (encode f) → WritePost (accepted f) s s (in_numbers (Err Memory))
short_post f s h = record { number = rw (lt-leb (length (encode f)) (length s) h); size = refl; bytes = refl }

done_post : (f : Frame) (s t : List ℕ) (n : ℕ) → n ≤ length s → PutPost (encode f) s t n → WritePost (accepted f) s t (in_numbers (Ok n))
done_post f s t n h p = record {
  number = rw (le-leb (length (encode f)) (length s) (omega arith));
  size = p.size;
  bytes = p.put ∙ ap (λ (k : ℕ). encode f ++ drop k s) p.size;
}

-- by the row of the fields' kind
module _ (x : Fields) (known : 0 < length (row_of x.kind).head) where
  abbrev values : List ℕ
  values = map (value_of x) (row_of x.kind).head

  by_row : from_fields x
      ≡ judged (grades_known (row_of x.kind).head values) (head_within (row_of x.kind).head x && pairs_within (row_of x.kind) x)
      (pairs_of (row_of x.kind) x) (frame_of x.kind values (pairs_of (row_of x.kind) x))
  unfolding from_kind
  by_row = rw (lt-ltb 0 (length (row_of x.kind).head) known)

  grade_refused : grades_known (row_of x.kind).head values ≡ false → from_fields x ≡ refused 14
  grade_refused g = by_row ∙ rw g

  module _ (g : grades_known (row_of x.kind).head values ≡ true) where
    head_refused : head_within (row_of x.kind).head x ≡ false → from_fields x ≡ refused 5
    head_refused h = by_row ∙ rw (g, h)

    module _ (h : head_within (row_of x.kind).head x ≡ true) where
      -- 5 or 6, or 0, of the pairs
      abbrev verdict : ℕ
      verdict = pairs_verdict (row_of x.kind).amount (pairs_taken (row_of x.kind) x) x.terms x.amounts

      pairs_refused : (verdict ≡ 0 → ⊥) → from_fields x ≡ refused verdict
      unfolding pairs_verdict pairs_number
      pairs_refused z = by_row ∙ rw (g, h) (go (pairs_within (row_of x.kind) x) (rising (pairs_of (row_of x.kind) x)) _ z)
        where
          go : (a b : Bool) (made : Shape) → (◌≡◌ {A = ℕ} (cond a (cond b 0 6) 5) 0 → ⊥)
              → cond a (cond b made (refused 6)) (refused 5) ≡ refused (cond a (cond b 0 6) 5)
          go true true made z = absurd (z refl)
          go true false made z = refl
          go false b made z = refl

      -- the frame that is written
      frame_made : verdict ≡ 0 → Made x x.kind
      frame_made z =
          let l = verdict_within (row_of x.kind).amount (pairs_taken (row_of x.kind) x) x.terms x.amounts z in
          made x x.kind known g (length_side (pairs_taken (row_of x.kind) x) x.terms x.amounts l.0 l.1)

      frame_accepted : (z : verdict ≡ 0) → from_fields x ≡ accepted (frame_made z).frame
      unfolding pairs_verdict
      frame_accepted z =
          let p = none_refused (pairs_within (row_of x.kind) x) (pairs_of (row_of x.kind) x) z in
          by_row ∙ rw (g, h, p.0, p.1) (frame_made z).is

      frame_size : (z : verdict ≡ 0)
          → length (encode (frame_made z).frame) ≡ bytes_for (bits_of (widths (row_of x.kind)) (row_of x.kind).amount (pairs_taken (row_of x.kind) x))
      frame_size z =
          let row = row_of x.kind in
          let l = verdict_within row.amount (pairs_taken row x) x.terms x.amounts z in
          ap length (frame_made z).spelled ∙ encode_length (widths row) row.amount _ (pairs_of row x)
          ∙ rw (length_side (pairs_taken row x) x.terms x.amounts l.0 l.1)

-- ---- by the code's row

-- what the writer knows once it has the values of a kind's fields
pub record Given (x : Fields) (r : Row) (values : List ℕ) : Type 0 where
  pub row : RowPost (row_of x.kind) r
  pub has : 0 < length r.widths.now
  pub post : ValuesPost x values

module _ {x : Fields} {r : Row} {values : List ℕ} (given : Given x r values) where
  places : length r.widths.now ≡ length (row_of x.kind).head
  places = ap length given.row.widths ∙ length-map (row_of x.kind).head width

  has_row : 0 < length (row_of x.kind).head
  has_row = omega (arith, places, given.has)

  pub narrow : (length r.widths.now ≤ 5) × Narrow r.widths.now
  narrow = let b = small x.terms x.kind in (omega (arith, places, b.places), rw given.row.widths b.narrow)

  pub grade_failed : (s : List ℕ) → grades_known (row_of x.kind).head values ≡ false → WritePost (from_fields x) s s (in_numbers (Err Urgency))
  grade_failed s g = rw (grade_refused x has_row (sym given.post.grades ∙ g)) (refused_post s Urgency)

  fit_is : (b : Bool) → fitting r.widths.now values ≡ b → head_within (row_of x.kind).head x ≡ b
  fit_is b f = sym given.post.fit ∙ rw (← given.row.widths) f

  graded : grades_known (row_of x.kind).head values ≡ true → grades_known (row_of x.kind).head (map (value_of x) (row_of x.kind).head) ≡ true
  graded g = sym given.post.grades ∙ g

  pub fit_failed : (s : List ℕ) → grades_known (row_of x.kind).head values ≡ true → fitting r.widths.now values ≡ false
      → WritePost (from_fields x) s s (in_numbers (Err Value))
  fit_failed s g f = rw (head_refused x has_row (graded g) (fit_is false f)) (refused_post s Value)

-- and once it has judged them, and counted the pairs
pub record Counted (x : Fields) (r : Row) (values : List ℕ) (m : ℕ) : Type 0 where
  pub given : Given x r values
  pub grades : grades_known (row_of x.kind).head values ≡ true
  pub fits : fitting r.widths.now values ≡ true
  pub said : m ≡ cond (eqb r.amount 0) 0 x.pairs

module _ {x : Fields} {r : Row} {values : List ℕ} {m : ℕ} (counted : Counted x r values m) where
  abbrev known : 0 < length (row_of x.kind).head
  known = has_row counted.given

  abbrev grades : grades_known (row_of x.kind).head (map (value_of x) (row_of x.kind).head) ≡ true
  grades = graded counted.given counted.grades

  abbrev within : head_within (row_of x.kind).head x ≡ true
  within = fit_is counted.given true counted.fits

  taken : m ≡ pairs_taken (row_of x.kind) x
  taken = counted.said ∙ rw counted.given.row.amount

  -- the frame is small
  pub few : (m ≤ most_pairs) × (r.amount ≤ 8) × (r.bits ≤ 63) × (m * (term_width + r.amount) ≤ 576)
  few =
      let b = small x.terms x.kind in
      let n : m ≤ most_pairs = rw taken (taken_most x x.kind within) in
      let w : r.amount ≤ 8 = rw counted.given.row.amount b.light in
      (n, w, omega (arith, b.short, counted.given.row.bits), pairs_light m r.amount n w)

  verdict_is : (n : ℕ) → n ≡ pairs_verdict r.amount m x.terms x.amounts → n ≡ verdict x known grades within
  verdict_is n e = e ∙ rw (counted.given.row.amount, taken)

  pub pairs_failed : (s : List ℕ) (e : Refusal) → number_of e ≡ pairs_verdict r.amount m x.terms x.amounts
      → WritePost (from_fields x) s s (in_numbers (Err e))
  pairs_failed s e n =
      let v = verdict_is (number_of e) n in
      rw (pairs_refused x known grades within (λ z. refusal_pos e (v ∙ z)), ← v) (refused_post s e)

  module _ (s : List ℕ) (sound : 0 ≡ pairs_verdict r.amount m x.terms x.amounts) where
    pub lent : (m ≤ length x.terms) × (m ≤ length x.amounts)
    lent = verdict_within r.amount m x.terms x.amounts (sym sound)

    none : verdict x known grades within ≡ 0
    none = sym (verdict_is 0 sound)

    abbrev made_frame : Made x x.kind
    made_frame = frame_made x known grades within none

    accepted_as : from_fields x ≡ accepted made_frame.frame
    accepted_as = frame_accepted x known grades within none

    size : length (encode made_frame.frame) ≡ bytes_for (r.bits + m * (term_width + r.amount))
    size = frame_size x known grades within none ∙ sym (rw (counted.given.row.bits, counted.given.row.amount, taken))

    pub room_failed : length s < bytes_for (r.bits + m * (term_width + r.amount)) → WritePost (from_fields x) s s (in_numbers (Err Memory))
    room_failed h = rw accepted_as (short_post made_frame.frame s (omega (arith, size)))

    pub put_done : (t : List ℕ) (n : ℕ) → bytes_for (r.bits + m * (term_width + r.amount)) ≤ length s
        → PutPost (written (kind_width ∷ r.widths.now) r.amount (x.kind ∷ take (length r.widths.now) values) (side_by_side m x.terms x.amounts)) s t n
        → WritePost (from_fields x) s t (in_numbers (Ok n))
    put_done t n h p =
        let given = counted.given in
        let q : PutPost (encode made_frame.frame) s t n =
        rw made_frame.spelled (rw (places given, given.row.widths, given.post.are within, given.row.amount, taken) at p) in
        rw accepted_as (done_post made_frame.frame s t n (omega (arith, size, q.size)) q)

unknown_fields : (x : Fields) → length (row_of x.kind).head ≡ 0 → from_fields x ≡ refused 2
unfolding from_kind
unknown_fields x h = rw (le-ltb 0 (length (row_of x.kind).head) (omega arith))

pub unknown_post : (x : Fields) (r : Row) (s : List ℕ) → RowPost (row_of x.kind) r → true ≡ eqb (length r.widths.now) 0
    → WritePost (from_fields x) s s (in_numbers (Err Kind))
unknown_post x r s row e =
    let n : length (row_of x.kind).head ≡ 0 =
    omega (arith, eqb-true (length r.widths.now) 0 (sym e), ap length row.widths, length-map (row_of x.kind).head width) in
    rw (unknown_fields x n) (refused_post s Kind)
