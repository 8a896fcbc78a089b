-- Laws of a bit field at any place and of any width: its bound, what a write leaves in it and in every other field. Assumes nothing.
use mathlib.Core.Path.{◌≡◌, refl, sym, ap, ap₂, ◌∙◌, subst}
use Prim.Native.Nat.{ℕ, zero, suc, ◌+◌, ◌-◌, ◌*◌, ◌^◌, ◌≤◌, ◌<◌}
use native.Mathlib.Nat.{suc-add, lt_of_lt_of_le, not-suc-le-zero}
use native.Mathlib.Omega.{arith}
use mathlib.Core.Bool.{Bool}
use mathlib.Core.List.{List, [], ◌∷◌, ◌++◌, append_assoc}
use lib.ListN.{length, take, drop, length-append, length-take, length-drop}
use lib.Seq.{take_at, drop_at, length-take-le, drop-drop, take-take}
use lib.Pow.{pow_mono}
use Rattle.wire.specs.Bits.{bits, num, unpack}
use Rattle.wire.specs.Field.{field, placed}
use Rattle.wire.proofs.BitLaws.{length_bits, num_of, num_lt, length_unpack}

pub field_lt : (s : List ℕ) (at w : ℕ) → field s at w < 2 ^ w
unfolding field
field_lt s at w = lt_of_lt_of_le (num_lt (take w (drop at (unpack s)))) (pow_mono {j = w} (omega (arith, length-take w (drop at (unpack s)))))

-- a field of at most 32 bits is a u32
pub field_fits : (s : List ℕ) (at w k : ℕ) → w ≤ k → field s at w < 2 ^ k
field_fits s at w k h = lt_of_lt_of_le (field_lt s at w) (pow_mono h)

-- a part of a list lies in any prefix that is long enough
part_of_take : (l : List Bool) (a n m : ℕ) → a + n ≤ m → take n (drop a l) ≡ take n (drop a (take m l))
part_of_take l zero n m h = sym (take-take n m l (omega arith))
part_of_take l (suc a) n zero h = absurd (not-suc-le-zero (subst (λ (k : ℕ). k ≤ 0) (suc-add a n) h))
part_of_take [] (suc a) n (suc m) h = refl
part_of_take (x ∷ l) (suc a) n (suc m) h = part_of_take l a n m (omega arith)

-- ---- what a written field leaves: t is s with v written in the w bits from bit at

-- t may be any list with those bits
module _ (s t : List ℕ) (at w v : ℕ) (fits : at + w ≤ 8 * length s) (is : unpack t ≡ placed s at w v) where
  head_length : length (take at (unpack s)) ≡ at
  head_length = length-take-le at (unpack s) (rw (length_unpack s) (omega arith))

  front_length : length (take at (unpack s) ++ bits w v) ≡ at + w
  front_length = length-append (take at (unpack s)) (bits w v) ∙ ap₂ (λ (x y : ℕ). x + y) head_length (length_bits w v)

  -- the bits before it, and its own
  pub placed_take : take (at + w) (unpack t) ≡ take at (unpack s) ++ bits w v
  unfolding placed
  placed_take = rw is (take_at (take at (unpack s) ++ bits w v) (drop (at + w) (unpack s)) (at + w) front_length)

  -- the bits after it
  pub placed_drop : drop (at + w) (unpack t) ≡ drop (at + w) (unpack s)
  unfolding placed
  placed_drop = rw is (drop_at (take at (unpack s) ++ bits w v) (drop (at + w) (unpack s)) (at + w) front_length)

  -- t is as long as s
  pub placed_length : length t ≡ length s
  unfolding placed
  placed_length =
      let e : length (unpack t) ≡ 8 * length s =
      ap length is ∙ length-append (take at (unpack s) ++ bits w v) (drop (at + w) (unpack s))
      ∙ ap₂ (λ (x y : ℕ). x + y) front_length (length-drop (at + w) (unpack s) ∙ ap (λ (n : ℕ). n - (at + w)) (length_unpack s))
      ∙ omega arith in
      omega (arith, length_unpack t)

  -- what was written is read back
  pub read_back : v < 2 ^ w → field t at w ≡ v
  unfolding field placed
  read_back h =
      rw (
        is,
        append_assoc (take at (unpack s)) (bits w v) (drop (at + w) (unpack s)),
        drop_at (take at (unpack s)) (bits w v ++ drop (at + w) (unpack s)) at head_length,
        take_at (bits w v) (drop (at + w) (unpack s)) w (length_bits w v),
      ) (num_of w v h)

  -- a field before it is unchanged
  pub before_kept : (a n : ℕ) → a + n ≤ at → field t a n ≡ field s a n
  unfolding field
  before_kept a n h =
      ap num (part_of_take (unpack t) a n at h ∙ ap (λ (l : List Bool). take n (drop a l)) same ∙ sym (part_of_take (unpack s) a n at h))
    where
      same : take at (unpack t) ≡ take at (unpack s)
      same = sym (take-take at (at + w) (unpack t) (omega arith)) ∙ ap (take at) placed_take ∙ take_at (take at (unpack s)) (bits w v) at head_length

  -- a field after it is unchanged
  pub after_kept : (a n : ℕ) → at + w ≤ a → field t a n ≡ field s a n
  unfolding field
  after_kept a n h =
      let e : at + w + (a - (at + w)) ≡ a = omega arith in
      let k : drop a (unpack t) ≡ drop a (unpack s) =
      ap (λ (m : ℕ). drop m (unpack t)) (sym e) ∙ sym (drop-drop (a - (at + w)) (at + w) (unpack t)) ∙ ap (drop (a - (at + w))) placed_drop
      ∙ drop-drop (a - (at + w)) (at + w) (unpack s) ∙ ap (λ (m : ℕ). drop m (unpack s)) e in
      ap (λ (l : List Bool). num (take n l)) k
