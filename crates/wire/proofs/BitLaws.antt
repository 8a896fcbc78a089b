-- Laws of bits and of bytes, for every width. Assumes nothing.
use mathlib.Core.Path.{◌≡◌, refl, sym, ap, ◌∙◌}
use Prim.Native.Nat.{ℕ, zero, suc, ◌+◌, ◌*◌, ◌/◌, ◌%◌, ◌^◌, ◌<◌}
use native.Mathlib.Nat.{
  zero-add,
  suc-add,
  add_assoc,
  add_comm,
  add-mul,
  mul_assoc,
  mod-lt,
  mod-eq_of_lt,
  mod-one,
  zero-mul,
  one-mul,
  pow-succ',
  le_of_eq,
  not-suc-le-zero,
  le_of_suc-le-suc,
  mul-add-mod_self_right,
  mul-add-div_right,
}
use native.Mathlib.Numerals.{one-add}
use native.Mathlib.Omega.{arith}
use mathlib.Core.Bool.{Bool, true, false}
use mathlib.Core.List.{List, [], ◌∷◌, ◌++◌}
use lib.ListN.{length, take, drop, length-append, length-drop, take-append-drop}
use lib.Seq.{take_at, drop_at, length-take-le}
use lib.Dec.{eqb, lit<}
use lib.Pow.{pow_pos, pow-add, split, high, mod-pow-add, shr-shr, shl_exact}
use lib.Arith.{digits_lt}
use Rattle.wire.specs.Bits.{val, odd, bits, num, unpack, pack, Bytes}

-- ---- one bit

-- 1 << w
pub one_shl : (w k : ℕ) → w < k → 1 * 2 ^ w % 2 ^ k ≡ 2 ^ w
one_shl w k h = shl_exact {a = 1} 1 w k (lit< tt) (omega arith) ∙ one-mul (2 ^ w)

pub val_lt : (b : Bool) → val b < 2
val_lt true = lit< tt
val_lt false = lit< tt

bit_of : (m : ℕ) → m < 2 → val (eqb m 1) ≡ m
bit_of zero h = refl
bit_of (suc zero) h = refl
bit_of (suc (suc m)) h = absurd (not-suc-le-zero (le_of_suc-le-suc (le_of_suc-le-suc h)))

pub val_odd : (n : ℕ) → val (odd n) ≡ n % 2
unfolding odd
val_odd n = bit_of (n % 2) (mod-lt n (lit< tt))

pub odd_val : (b : Bool) → odd (val b) ≡ b
unfolding odd
odd_val true = refl
odd_val false = refl

-- what stands above the lowest bit does not matter
pub odd_skip : (a r : ℕ) → odd (a * 2 + r) ≡ odd r
unfolding odd
odd_skip a r = ap (λ (x : ℕ). eqb x 1) (mul-add-mod_self_right a 2 r)

-- ---- `bits` and `num` are inverse

pub length_bits : (w v : ℕ) → length (bits w v) ≡ w
unfolding bits
length_bits zero v = refl
length_bits (suc w) v = ap suc (length_bits w v)

up : (a w : ℕ) → a * 2 ^ suc w ≡ a * 2 * 2 ^ w
up a w = ap (λ (x : ℕ). a * x) (pow-succ' 2 w) ∙ sym (mul_assoc a 2 (2 ^ w))

pub num_bits : (w v : ℕ) → num (bits w v) ≡ v % 2 ^ w
unfolding bits num
num_bits zero v = sym (mod-one v)
num_bits (suc w) v =
    (λ i. val_odd (v / 2 ^ w) i * 2 ^ length_bits w v i + num_bits w v i)
    ∙ sym (ap (λ (n : ℕ). v % 2 ^ n) (sym (one-add w)) ∙ mod-pow-add v 1 w)

pub num_of : (w v : ℕ) → v < 2 ^ w → num (bits w v) ≡ v
num_of w v h = num_bits w v ∙ mod-eq_of_lt h

pub num_lt : (bs : List Bool) → num bs < 2 ^ length bs
unfolding num
num_lt [] = lit< tt
num_lt (b ∷ bs) = rw (pow-succ' 2 (length bs)) (digits_lt (val_lt b) (num_lt bs))

-- what stands above the `w` lowest bits does not matter
pub bits_skip : (w a r : ℕ) → bits w (a * 2 ^ w + r) ≡ bits w r
unfolding bits
bits_skip zero a r = refl
bits_skip (suc w) a r =
    rw (up a w, mul-add-div_right (pow_pos w) (a * 2) r, odd_skip a (r / 2 ^ w), bits_skip w (a * 2) r)

pub bits_num : (bs : List Bool) → bits (length bs) (num bs) ≡ bs
unfolding bits num
bits_num [] = refl
bits_num (b ∷ bs) =
    rw (high (val b) (length bs) (num_lt bs), odd_val b, bits_skip (length bs) (val b) (num bs), bits_num bs)

pub bits_mod : (w v : ℕ) → bits w (v % 2 ^ w) ≡ bits w v
bits_mod w v = sym (bits_skip w (v / 2 ^ w) (v % 2 ^ w)) ∙ ap (bits w) (split v w)

-- ---- appended lists

pub bits_add : (m n v : ℕ) → bits (m + n) v ≡ bits m (v / 2 ^ n) ++ bits n v
unfolding bits
bits_add zero n v = ap (λ (k : ℕ). bits k v) (zero-add n)
bits_add (suc m) n v =
    rw (suc-add m n, bits_add m n v, shr-shr v n m, add_comm m n)

pub num_append : (a b : List Bool) → num (a ++ b) ≡ num a * 2 ^ length b + num b
unfolding num
num_append [] b = rw (zero-mul (2 ^ length b), zero-add (num b))
num_append (x ∷ a) b =
    rw (
      num_append a b,
      length-append a b,
      pow-add 2 (length a) (length b),
      add-mul (val x * 2 ^ length a) (num a) (2 ^ length b),
      mul_assoc (val x) (2 ^ length a) (2 ^ length b),
      add_assoc (val x * (2 ^ length a * 2 ^ length b)) (num a * 2 ^ length b) (num b),
    )

-- ---- bytes

pub length_unpack : (s : List ℕ) → length (unpack s) ≡ 8 * length s
unfolding unpack
length_unpack [] = refl
length_unpack (x ∷ s) = length-append (bits 8 x) (unpack s) ∙ omega (arith, length_bits 8 x, length_unpack s)

pub length_pack : (n : ℕ) (bs : List Bool) → length (pack n bs) ≡ n
unfolding pack
length_pack zero bs = refl
length_pack (suc n) bs = ap suc (length_pack n (drop 8 bs))

pub pack_unpack : (s : List ℕ) → Bytes s → pack (length s) (unpack s) ≡ s
unfolding pack unpack
pack_unpack [] h = refl
pack_unpack (x ∷ s) h =
    rw (take_at (bits 8 x) (unpack s) 8 (length_bits 8 x), drop_at (bits 8 x) (unpack s) 8 (length_bits 8 x), num_of 8 x (h 0), pack_unpack s (λ i. h (suc i)))

pub unpack_pack : (n : ℕ) (bs : List Bool) → length bs ≡ 8 * n → unpack (pack n bs) ≡ bs
unfolding pack unpack
unpack_pack zero [] h = refl
unpack_pack zero (b ∷ bs) h = absurd (not-suc-le-zero (le_of_eq h))
unpack_pack (suc n) bs h =
    let e : length (take 8 bs) ≡ 8 = length-take-le 8 bs (omega arith) in
    let r : bits 8 (num (take 8 bs)) ≡ take 8 bs = ap (λ (k : ℕ). bits k (num (take 8 bs))) (sym e) ∙ bits_num (take 8 bs) in
    rw (r, unpack_pack n (drop 8 bs) (length-drop 8 bs ∙ omega arith)) (take-append-drop 8 bs)
