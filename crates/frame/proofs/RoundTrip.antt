-- The reader and the writer undo each other, by what they promise: reading what was written gives the fields, and writing what was read gives the
-- bytes. Assumes nothing.
use Prim.Native.Nat.{ℕ, zero, suc, ◌≤◌}
use native.Mathlib.Nat.{not-suc-le-zero, le_of_suc-le-suc, le_trans}
use native.Mathlib.Omega.{arith}
use mathlib.Core.Path.{◌≡◌, refl, sym, ap, ◌∙◌}
use mathlib.Core.Bool.{cond}
use mathlib.Core.Logic.{◌⊎◌, inl, inr}
use mathlib.Core.List.{List, [], ◌∷◌, ◌++◌, map}
use lib.ListN.{length, take, drop}
use lib.Seq.{take_at}
use lib.Dec.{eqb}
use borrow.Author.Tests.{le-leb}
use Rattle.std.specs.Prelude.{Result, Ok, Err}
use Rattle.wire.specs.Bits.{Bytes}
use Rattle.paper.specs.Frame.{Pair, Urgency, Form, Frame, Fields, Shape, Valid, urgency_of, kind_of, grade_of, shape, encode, most_pairs}
use Rattle.paper.specs.Frame.Frame.{message, tick, register, unregister, cancel}
use Rattle.paper.specs.Frame.Form.{ungraded, graded, long}
use Rattle.paper.specs.Frame.Shape.{refused, accepted}
use Rattle.paper.specs.Refusal.{number_of}
use Rattle.paper.specs.Write.{side_by_side, from_fields, fields_with, pairs_in, write_number, bytes_of}
use Rattle.paper.specs.declared.refusal.Refusal.{Refusal}
use Rattle.paper.proofs.FrameLaws.{of_level, form_most, shape_valid, encode_shape}
use Rattle.paper.proofs.WriteLaws.{Beside, fields_number, fields_read, fields_with_lem}
use Rattle.frame.specs.declared.Kind.{Kind}
use Rattle.frame.specs.declared.Kind.TheVariants.{Message, Tick, Register, Unregister, Cancel}
use Rattle.frame.specs.declared.Parsed.{Parsed}
use Rattle.frame.specs.Read.{ReadPost, ReadFrame, answer_of, padded, term_array, amount_array}
use Rattle.frame.specs.Write.{Written, WritePost, fields_by, fields_in}

-- ---- reading what was written

-- reading the written bytes answers as the fields say, with their pairs in the arrays
pub read_written : (x : Fields) (s t : List ℕ) (w : Written) (r : Result Parsed Refusal)
    → WritePost (from_fields x) s t w → w.number ≡ 0 → ReadPost (shape (take w.length t)) r → ReadPost (from_fields x) r
read_written x s t w r post z got = go (from_fields x) refl (sym post.number ∙ z) (rw z at post.size) (rw z at post.bytes)
  where
    go : (sh : Shape) → from_fields x ≡ sh → write_number (length s) sh ≡ 0 → w.length ≡ length (bytes_of sh) → t ≡ bytes_of sh ++ drop (length (bytes_of sh)) s
        → ReadPost sh r
    go (refused n) e h l b = absurd (none (fields_number x n e))
      where
        none : (((2 ≤ n) × (n ≤ 6)) ⊎ (n ≡ 14)) → ⊥
        none (inl k) = omega arith
        none (inr k) = omega arith
    go (accepted f) e h l b =
        let is : take w.length t ≡ encode f = rw b (take_at (encode f) (drop (length (encode f)) s) w.length (sym l)) in
        rw (is, fields_read x f e) at got

-- ---- the pairs in their arrays

pub length_padded : (n : ℕ) (xs : List ℕ) → length (padded n xs) ≡ n
length_padded zero xs = refl
length_padded (suc n) [] = ap suc (length_padded n [])
length_padded (suc n) (x ∷ xs) = ap suc (length_padded n xs)

-- the pairs are found in their arrays again, however long
pub beside_padded : (n : ℕ) (ps : List Pair) → length ps ≤ n
    → side_by_side (length ps) (padded n (map (λ p. p.term) ps)) (padded n (map (λ p. p.amount) ps)) ≡ ps
unfolding side_by_side
beside_padded n [] h = refl
beside_padded zero (p ∷ ps) h = absurd (not-suc-le-zero h)
beside_padded (suc n) (p ∷ ps) h = ap (λ (l : List Pair). p ∷ l) (beside_padded n ps (le_of_suc-le-suc h))

-- the arrays of pairs hold them
in_arrays : (ps : List Pair) → length ps ≤ most_pairs → Beside (term_array ps) (amount_array ps) ps
in_arrays ps h = record {
  terms = omega (arith, length_padded most_pairs (map (λ p. p.term) ps));
  amounts = omega (arith, length_padded most_pairs (map (λ p. p.amount) ps));
  are = beside_padded most_pairs ps h;
}

-- ---- an answer tells its frame

-- the form that a kind is, with an urgency where it says one
abbrev pub form_of : ℕ → Urgency → Form
form_of kind u = cond (eqb kind 1) ungraded (cond (eqb kind 6) (graded u) (long u))

form_of_lem : (g : Form) → form_of (kind_of g) (grade_of g) ≡ g
form_of_lem ungraded = refl
form_of_lem (graded u) = refl
form_of_lem (long u) = refl

-- what an answer and its arrays say
abbrev pub told : Kind → List ℕ → List ℕ → Frame
told (Message f t s u m) ts us = message t s (form_of f (urgency_of u)) (side_by_side m ts us)
told (Tick t) ts us = tick t
told (Register t n k m) ts us = register t n k (side_by_side m ts us)
told (Unregister t n) ts us = unregister t n
told (Cancel t s) ts us = cancel t s

-- no frame has more pairs than the arrays have places
pub pairs_most : (f : Frame) → Valid f → length (pairs_in f) ≤ most_pairs
pairs_most (message t s g ps) v = le_trans v.pairs.at_most (form_most g)
pairs_most (tick t) v = omega arith
pairs_most (register t n k ps) v = let h = v.terms.at_most in omega arith
pairs_most (unregister t n) v = omega arith
pairs_most (cancel t s) v = omega arith

told_frame : (f : Frame) → length (pairs_in f) ≤ most_pairs → told (answer_of f) (term_array (pairs_in f)) (amount_array (pairs_in f)) ≡ f
told_frame (message t s g ps) h = rw (of_level (grade_of g), form_of_lem g, beside_padded most_pairs ps h)
told_frame (tick t) h = refl
told_frame (register t n k ps) h = ap (λ (l : List Pair). register t n k l) (beside_padded most_pairs ps h)
told_frame (unregister t n) h = refl
told_frame (cancel t s) h = refl

-- what an answer says, a refusal too
abbrev pub told_shape : Result Parsed Refusal → Shape
told_shape (Ok r) = accepted (told r.what r.terms r.amounts)
told_shape (Err e) = refused (number_of e)

-- the answer to bytes says their shape
pub read_told : (bytes : List ℕ) (r : Result Parsed Refusal) → ReadPost (shape bytes) r → told_shape r ≡ shape bytes
read_told bytes (Err e) post = sym post
read_told bytes (Ok r) post =
    rw (post.what, post.terms, post.amounts)
    (ap accepted (told_frame post.frame (pairs_most post.frame (shape_valid bytes post.frame post.is))) ∙ sym post.is)

-- how many pairs an answer says
abbrev pub count_in : Kind → ℕ
count_in (Message f t s u m) = m
count_in (Tick t) = 0
count_in (Register t n k m) = m
count_in (Unregister t n) = 0
count_in (Cancel t s) = 0

pub count_answer : (f : Frame) → count_in (answer_of f) ≡ length (pairs_in f)
count_answer (message t s g ps) = refl
count_answer (tick t) = refl
count_answer (register t n k ps) = refl
count_answer (unregister t n) = refl
count_answer (cancel t s) = refl

-- ---- writing what was read

fields_in_lem : (sh : Shape) (r : Parsed) (got : ReadFrame sh r) → Valid got.frame → from_fields (fields_in r) ≡ accepted got.frame
fields_in_lem sh r got v =
    let ps = pairs_in got.frame in
    rw (got.what, got.terms, got.amounts)
    (ap from_fields (same got.frame (term_array ps) (amount_array ps)) ∙ fields_with_lem got.frame _ _ v (in_arrays ps (pairs_most got.frame v)))
  where
    same : (g : Frame) (ts us : List ℕ) → fields_by (answer_of g) ts us ≡ fields_with g ts us
    same (message t s ungraded ps) ts us = refl
    same (message t s (graded u) ps) ts us = refl
    same (message t s (long u) ps) ts us = refl
    same (tick t) ts us = refl
    same (register t n k ps) ts us = refl
    same (unregister t n) ts us = refl
    same (cancel t s) ts us = refl

-- a frame is answered with its fields
pub read_accepted : (s : List ℕ) (f : Frame) (r : Result Parsed Refusal) → shape s ≡ accepted f → ReadPost (shape s) r
    → (p : Parsed) × (r ≡ Ok p) × ReadFrame (shape s) p
read_accepted s f (Ok p) e got = (p, refl, got)
read_accepted s f (Err n) e got = absurd (none (sym e ∙ got))
  where
    none : accepted f ≡ refused (number_of n) → ⊥
    none h = cc

-- writing what a reading answered gives the bytes that were read
pub write_read : (s o t : List ℕ) (r : Parsed) (w : Written) → Bytes s → ReadPost (shape s) (Ok r)
    → WritePost (from_fields (fields_in r)) o t w → length s ≤ length o → (w.number ≡ 0) × (w.length ≡ length s) × (t ≡ s ++ drop (length s) o)
write_read s o t r w hb got post h =
    let f = got.frame in
    let b : s ≡ encode f = encode_shape s f hb got.is in
    let l : length s ≡ length (encode f) = ap length b in
    let is : from_fields (fields_in r) ≡ accepted f = fields_in_lem (shape s) r got (shape_valid s f got.is) in
    let q : WritePost (accepted f) o t w = rw is at post in
    let z : w.number ≡ 0 = q.number ∙ rw (le-leb (length (encode f)) (length o) (omega arith)) in
    let n : w.length ≡ length (encode f) = rw z at q.size in
    let v : t ≡ encode f ++ drop (length (encode f)) o = rw z at q.bytes in
    (z, omega arith, rw b v)
