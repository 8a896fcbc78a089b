-- Laws of the writer's entry: terms of two bytes each, no more than the most pairs of them, and a number and a size in one number. Assumes nothing.
use Prim.Native.Nat.{ℕ, zero, suc, min, ◌+◌, ◌*◌, ◌/◌, ◌%◌, ◌^◌, ◌≤◌, ◌<◌}
use native.Mathlib.Nat.{not-suc-le-zero}
use native.Mathlib.Numerals.{towards_suc}
use native.Mathlib.Omega.{arith}
use mathlib.Core.Path.{◌≡◌, refl, sym, ap, ◌∙◌, subst}
use mathlib.Core.Bool.{Bool, true, false, cond, and-false}
use mathlib.Core.List.{List, [], ◌∷◌}
use lib.ListN.{length, get_or, set, take, length-set, length-take}
use lib.Dec.{eqb, leb}
use borrow.Author.Tests.{leb-true, leb-false, le-leb, lt-leb}
use Rattle.std.proofs.lemmas.List.{take_min}
use Rattle.wire.specs.Field.{total}
use Rattle.paper.specs.Frame.{Pair, Fields, Shape, row_of, pairs_width, most_pairs}
use Rattle.paper.specs.Frame.Shape.{refused, accepted}
use Rattle.paper.specs.Write.{side_by_side, head_within, from_kind, from_fields, bytes_of}
use Rattle.paper.proofs.FrameLaws.{by_kind, encode_most}
use Rattle.paper.proofs.WriteLaws.{unknown_kind, fields_valid}
use Rattle.memory.proofs.ArrayLaws.{copy_more}
use Rattle.frame.specs.Write.{Written, fields, WritePost}
use Rattle.fennelrake.specs.Entry.{terms_of, heard_writing}

-- ---- terms of two bytes

pub length_terms : (s : List ℕ) → length (terms_of s) ≡ length s / 2
unfolding terms_of
length_terms [] = refl
length_terms (a ∷ []) = refl
length_terms (a ∷ b ∷ s) = let ih = length_terms s in omega arith

two : (i : ℕ) → 2 * suc i ≡ suc (suc (2 * i))
two i = omega arith

get_term : (s : List ℕ) (i : ℕ) → 2 * i + 2 ≤ length s → get_or (terms_of s) i 0 ≡ get_or s (2 * i) 0 * 256 + get_or s (2 * i + 1) 0
unfolding terms_of
get_term [] i h = absurd (omega arith)
get_term (a ∷ []) i h = absurd (omega arith)
get_term (a ∷ b ∷ s) zero h = refl
get_term (a ∷ b ∷ s) (suc i) h = rw two (simp towards_suc (simp towards_suc at (get_term s i (omega arith))))

-- i of the terms stand in a
pub record Decoding (count i : ℕ) (bytes a : List ℕ) : Type 0 where
  pub bound : i ≤ count
  pub wide : length a ≡ most_pairs
  pub same : take i a ≡ take i (terms_of bytes)

pub decoding_more : {count i v : ℕ} {bytes a : List ℕ} → count ≤ most_pairs → 2 * count ≤ length bytes → i < count
    → v ≡ get_or bytes (2 * i) 0 * 256 + get_or bytes (2 * i + 1) 0 → Decoding count i bytes a → Decoding count (i + 1) bytes (set a i v)
decoding_more {count} {i} {v} {bytes} {a} m h k e p = record {
  bound = omega arith;
  wide = length-set a i v ∙ p.wide;
  same =
      let l = length_terms bytes in
      rw (e ∙ sym (get_term bytes i (omega arith))) (copy_more a (terms_of bytes) i (omega arith) (omega arith) p.same);
}

-- ---- later terms are never looked at

beside_cut : (n m : ℕ) (ts us : List ℕ) → n ≤ m → side_by_side n (take m ts) us ≡ side_by_side n ts us
unfolding side_by_side
beside_cut zero m ts us h = refl
beside_cut (suc n) zero ts us h = absurd (not-suc-le-zero h)
beside_cut (suc n) (suc m) [] us h = refl
beside_cut (suc n) (suc m) (t ∷ ts) [] h = refl
beside_cut (suc n) (suc m) (t ∷ ts) (u ∷ us) h = ap (λ (ps : List Pair). record { term = t; amount = u } ∷ ps) (beside_cut n m ts us (omega arith))

long_cut : (n m : ℕ) (ts : List ℕ) → n ≤ m → leb n (length (take m ts)) ≡ leb n (length ts)
long_cut n m ts h = go (leb n (length ts)) refl
  where
    go : (t : Bool) → leb n (length ts) ≡ t → leb n (length (take m ts)) ≡ t
    go true e = le-leb n (length (take m ts)) (omega (arith, length-take m ts, leb-true n (length ts) e))
    go false e = lt-leb n (length (take m ts)) (omega (arith, length-take m ts, leb-false n (length ts) e))

-- the fields with these terms for their own
abbrev pub with_terms : Fields → List ℕ → Fields
with_terms x ts = fields x.kind x.time x.serial x.urgency x.number x.k x.pairs ts x.amounts

module _ (x : Fields) where
  -- no kind needs more terms than a message can have pairs, if those with pairs don't
  abbrev Cut : ℕ → Type 0
  Cut k = from_kind k (with_terms x (take most_pairs x.terms)) ≡ from_kind k x

  by_pairs : Cut 1 → Cut 3 → Cut 6 → Cut 7 → (k : ℕ) → Cut k
  unfolding from_kind row_of head_within
  by_pairs message register graded long =
      by_kind Cut message (rw (long_cut 0 most_pairs x.terms (omega arith), beside_cut 0 most_pairs x.terms x.amounts (omega arith)))
      register (rw (long_cut 0 most_pairs x.terms (omega arith), beside_cut 0 most_pairs x.terms x.amounts (omega arith)))
      (rw (long_cut 0 most_pairs x.terms (omega arith), beside_cut 0 most_pairs x.terms x.amounts (omega arith)))
      graded
      long
      (λ k none. unknown_kind (with_terms x (take most_pairs x.terms)) k none ∙ sym (unknown_kind x k none))

  few_cut : x.pairs ≤ most_pairs → (k : ℕ) → Cut k
  unfolding from_kind row_of head_within
  few_cut h =
      by_pairs (rw (long_cut x.pairs most_pairs x.terms h, beside_cut x.pairs most_pairs x.terms x.amounts h))
      (rw (long_cut x.pairs most_pairs x.terms h, beside_cut x.pairs most_pairs x.terms x.amounts h))
      (rw (long_cut x.pairs most_pairs x.terms h, beside_cut x.pairs most_pairs x.terms x.amounts h))
      (rw (long_cut x.pairs most_pairs x.terms h, beside_cut x.pairs most_pairs x.terms x.amounts h))

  many_cut : most_pairs < x.pairs → (k : ℕ) → Cut k
  unfolding from_kind row_of head_within
  many_cut h =
      by_pairs (rw (lt-leb x.pairs (2 ^ pairs_width) (omega arith)) (simp and-false)) (rw (lt-leb x.pairs 8 (omega arith)) (simp and-false))
      (rw (lt-leb x.pairs (2 ^ pairs_width) (omega arith)) (simp and-false)) (rw (lt-leb x.pairs most_pairs h) (simp and-false))

  fields_cut : from_fields (with_terms x (take most_pairs x.terms)) ≡ from_fields x
  fields_cut = go (leb x.pairs most_pairs) refl
    where
      go : (t : Bool) → leb x.pairs most_pairs ≡ t → from_fields (with_terms x (take most_pairs x.terms)) ≡ from_fields x
      go true e = few_cut (leb-true x.pairs most_pairs e) x.kind
      go false e = many_cut (leb-false x.pairs most_pairs e) x.kind

-- ---- a number and a size in one number

-- no frame has more than 80 bytes
pub written_most : (x : Fields) {s t : List ℕ} {w : Written} → WritePost (from_fields x) s t w → w.length ≤ 80
unfolding total
written_most x {w = w} p = go (from_fields x) refl (eqb w.number 0) p.size
  where
    go : (sh : Shape) → from_fields x ≡ sh → (b : Bool) → w.length ≡ cond b (length (bytes_of sh)) 0 → w.length ≤ 80
    go sh e false l = omega arith
    go (refused n) e true l = omega arith
    go (accepted f) e true l = let m = encode_most f (fields_valid x f e) in omega arith

pub write_heard : (x : Fields) {count told : ℕ} {first s t : List ℕ} {w : Written} → first ≡ take count x.terms → count ≡ min (length x.terms) most_pairs
    → told ≡ w.number * 4294967296 + w.length → WritePost (from_fields (with_terms x first)) s t w → WritePost (from_fields x) s t (heard_writing told)
write_heard x {count} {told} {first} {s} {t} {w} e few is p =
    let m : w.length ≤ 80 = written_most (with_terms x first) p in
    let most : count ≡ min most_pairs (length x.terms) = omega arith in
    let number : told / 4294967296 ≡ w.number = omega arith in
    let size : told % 4294967296 ≡ w.length = omega arith in
    let cut : from_fields (with_terms x first) ≡ from_fields x = rw (e, most, take_min most_pairs x.terms) (fields_cut x) in
    rw (number, size) (subst (λ (sh : Shape). WritePost sh s t w) cut p)
