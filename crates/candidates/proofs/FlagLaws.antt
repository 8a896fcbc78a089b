-- Bits of a word: one of them read or replaced, and that of a slot among nine words. Assumes nothing.
use Prim.Native.Nat.{ℕ, zero, suc, ◌+◌, ◌-◌, ◌*◌, ◌/◌, ◌%◌, ◌^◌, ◌<◌}
use native.Mathlib.Nat.{mod-lt, le_of_suc-le-suc, not-suc-le-zero, div-one, zero-div, pow-suc}
use native.Mathlib.Numerals.{add-one}
use native.Mathlib.Omega.{arith}
use mathlib.Core.Path.{◌≡◌, refl, sym, ap, ap₂, ◌∙◌, subst}
use mathlib.Core.Bool.{Bool, true, false, cond}
use mathlib.Core.List.{List, [], ◌∷◌, ◌++◌, append_assoc}
use lib.ListN.{length, get_or, set, replicate}
use lib.Seq.{get_or_at, get_or-set_same, get_or-set_other}
use lib.Dec.{eqb}
use borrow.Author.Tests.{eqb-true, eqb-false, eq-eqb, ne_eqb}
use lib.Pow.{pow_pos, pow-add, high, shr_lt}
use lib.Arith.{digits_lt}
use Rattle.std.specs.Int.{from_bool}
use Rattle.paper.specs.Layout.{slots}
use Rattle.wire.specs.Bits.{val, odd, bits}
use Rattle.wire.proofs.BitLaws.{val_lt, odd_val, odd_skip, length_bits, bits_add, bits_skip, bits_mod}
use Rattle.candidates.specs.Flags.{flag_of}
use Rattle.candidates.specs.Post.{WithBit, WithFlag}

-- a bit's number, as the code has it
pub val_from : (b : Bool) → from_bool b ≡ val b
val_from true = refl
val_from false = refl

-- bit k of the w lowest bits of v
pub bit_of : (w v k : ℕ) → k < w → get_or (bits w v) k false ≡ odd (v / 2 ^ (w - 1 - k))
unfolding bits
bit_of zero v k h = absurd (not-suc-le-zero h)
bit_of (suc w) v zero h = let e : w ≡ suc w - 1 - 0 = omega arith in ap (λ (n : ℕ). odd (v / 2 ^ n)) e
bit_of (suc w) v (suc k) h =
    let e : w - 1 - k ≡ suc w - 1 - suc k = omega arith in
    bit_of w v k (le_of_suc-le-suc h) ∙ ap (λ (n : ℕ). odd (v / 2 ^ n)) e

pub no_bit : (w k : ℕ) → get_or (bits w 0) k false ≡ false
unfolding bits odd
no_bit zero k = refl
no_bit (suc w) zero = rw (zero-div (2 ^ w))
no_bit (suc w) (suc k) = no_bit w k

pub zero_at : (n i : ℕ) → ◌≡◌ {A = ℕ} (get_or (replicate n 0) i 0) 0
zero_at zero i = refl
zero_at (suc n) zero = refl
zero_at (suc n) (suc i) = zero_at n i

pub no_flags : (n j : ℕ) → flag_of (replicate n 0) j ≡ false
unfolding flag_of
no_flags n j = rw (zero_at n (j / 32)) (no_bit 32 (j % 32))

-- one bit more at the end
bits_snoc : (n x : ℕ) (b : Bool) → bits (n + 1) (x * 2 + val b) ≡ bits n x ++ (b ∷ [])
unfolding bits
bits_snoc n x b =
    let e : (x * 2 + val b) / 2 ≡ x = omega (arith, val_lt b) in
    let o : odd ((x * 2 + val b) / 1) ≡ b = rw div-one (odd_skip x (val b) ∙ odd_val b) in
    rw (bits_add n 1 (x * 2 + val b), e, o)

-- a word of i bits takes one more
word_more : (i word b : ℕ) → word < 2 ^ i → b < 2 → word * 2 + b < 2 ^ (i + 1)
word_more i word b h k = rw (add-one, pow-suc) (digits_lt h k)

-- ---- one bit replaced

others_same : {A : Type 0} (xs ys : List A) (b c d : A) (i : ℕ) → (i ≡ length xs → ⊥) → get_or (xs ++ (b ∷ ys)) i d ≡ get_or (xs ++ (c ∷ ys)) i d
others_same [] ys b c d zero n = absurd (n refl)
others_same [] ys b c d (suc i) n = refl
others_same (x ∷ xs) ys b c d zero n = refl
others_same (x ∷ xs) ys b c d (suc i) n = others_same xs ys b c d i (λ e. n (ap suc e))

one_bit : (v : ℕ) → bits 1 v ≡ odd v ∷ []
unfolding bits
one_bit v = ap (λ (n : ℕ). odd n ∷ []) (div-one v)

-- k bits of h, then b, then the m lowest bits of v
bits_around : (k m h v : ℕ) (b : Bool) → bits (k + 1 + m) ((h * 2 + val b) * 2 ^ m + v % 2 ^ m) ≡ bits k h ++ (b ∷ bits m v)
bits_around k m h v b =
    let top = high (h * 2 + val b) m (mod-lt v (pow_pos m)) in
    bits_add (k + 1) m ((h * 2 + val b) * 2 ^ m + v % 2 ^ m)
    ∙ ap₂ ◌++◌ (ap (bits (k + 1)) top ∙ bits_snoc k h b) (bits_skip m (h * 2 + val b) (v % 2 ^ m) ∙ bits_mod m v)
    ∙ append_assoc (bits k h) (b ∷ []) (bits m v)

-- a word with bit k, of value 2 to the m, as given
abbrev pub replaced : ℕ → ℕ → ℕ → ℕ
replaced word low digit = (word / low / 2 * 2 + digit) * low + word % low

module _ (word k m low : ℕ) (width : k + 1 + m ≡ 32) (value : low ≡ 2 ^ m) where
  pub replaced_fits : (digit : ℕ) → word < 2 ^ 32 → digit < 2 → replaced word low digit < 2 ^ 32
  replaced_fits digit h d =
      let top : word / 2 ^ m < 2 ^ (k + 1) = shr_lt (k + 1) m (rw width h) in
      let more : word / 2 ^ m / 2 * 2 + digit < 2 ^ (k + 1) = word_more k (word / 2 ^ m / 2) digit (shr_lt k 1 top) d in
      let fits : replaced word (2 ^ m) digit < 2 ^ (k + 1) * 2 ^ m = digits_lt more (mod-lt word (pow_pos m)) in
      rw value (subst (λ (x : ℕ). replaced word (2 ^ m) digit < x) (sym (pow-add 2 (k + 1) m) ∙ ap (λ (n : ℕ). 2 ^ n) width) fits)

  pub bit_replaced : (b : Bool) → WithBit word k b (replaced word low (val b))
  bit_replaced b i l = rw value (go (eqb i k) refl)
    where
      h : ℕ
      h = word / 2 ^ m / 2

      new : bits 32 (replaced word (2 ^ m) (val b)) ≡ bits k h ++ (b ∷ bits m word)
      new = rw (← width) (bits_around k m h word b)

      old : bits 32 word ≡ bits k h ++ (odd (word / 2 ^ m) ∷ bits m word)
      old =
          rw (← width)
          (bits_add (k + 1) m word
          ∙ ap (λ (l : List Bool). l ++ bits m word) (bits_add k 1 (word / 2 ^ m))
          ∙ append_assoc (bits k h) (bits 1 (word / 2 ^ m)) (bits m word)
          ∙ ap (λ (l : List Bool). bits k h ++ (l ++ bits m word)) (one_bit (word / 2 ^ m)))

      go : (t : Bool) → eqb i k ≡ t → get_or (bits 32 (replaced word (2 ^ m) (val b))) i false ≡ cond t b (get_or (bits 32 word) i false)
      go true e = rw (new, eqb-true i k e) (get_or_at (bits k h) b (bits m word) false k (length_bits k h))
      go false e = rw (new, old) (others_same (bits k h) (bits m word) b (odd (word / 2 ^ m)) false i (λ z. eqb-false i k e (z ∙ length_bits k h)))

-- ---- the flag of one slot replaced

pub flag_replaced : (fs : List ℕ) (j : ℕ) (b : Bool) (word : ℕ) → j < slots → length fs ≡ 9 → WithBit (get_or fs (j / 32) 0) (j % 32) b word
    → WithFlag fs j b (set fs (j / 32) word)
unfolding flag_of
flag_replaced fs j b word h l new i = go (eqb (i / 32) (j / 32)) refl
  where
    same_place : i / 32 ≡ j / 32 → (u : Bool) → eqb i j ≡ u → eqb (i % 32) (j % 32) ≡ u
    same_place q true p = let z = eqb-true i j p in eq-eqb (i % 32) (j % 32) (omega arith)
    same_place q false p = ne_eqb (i % 32) (j % 32) (λ z. eqb-false i j p (omega arith))

    go : (t : Bool) → eqb (i / 32) (j / 32) ≡ t
        → get_or (bits 32 (get_or (set fs (j / 32) word) (i / 32) 0)) (i % 32) false ≡ cond (eqb i j) b (get_or (bits 32 (get_or fs (i / 32) 0)) (i % 32) false)
    go true e =
        let q = eqb-true (i / 32) (j / 32) e in
        rw (q, get_or-set_same fs (j / 32) word 0 (omega arith), ← same_place q (eqb i j) refl) (new (i % 32) (omega arith))
    go false e =
        let q = eqb-false (i / 32) (j / 32) e in
        rw (get_or-set_other fs (j / 32) (i / 32) word 0 q, ne_eqb i j (λ z. q (omega arith)))
