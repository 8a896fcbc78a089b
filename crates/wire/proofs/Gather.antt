-- A field gathered byte by byte: the turn and the end of the loop of `take_bits`. Assumes nothing.
use mathlib.Core.Path.{◌≡◌, ap, ap₂, ◌∙◌, subst}
use Prim.Native.Nat.{ℕ, zero, suc, ◌+◌, ◌-◌, ◌*◌, ◌/◌, ◌%◌, ◌^◌, ◌≤◌, ◌<◌}
use native.Mathlib.Nat.{not-suc-le-zero, le_of_suc-le-suc}
use native.Mathlib.Omega.{arith}
use mathlib.Core.Bool.{Bool}
use mathlib.Core.List.{List, [], ◌∷◌, ◌++◌}
use lib.ListN.{length, take, drop, get_or, length-drop}
use lib.Seq.{take_at, drop_at, length-take-le, take-add, drop-drop}
use lib.Pow.{high, low}
use Rattle.wire.specs.Bits.{bits, num, unpack}
use Rattle.wire.specs.Field.{field}
use Rattle.wire.proofs.BitLaws.{length_bits, num_of, num_lt, num_append, length_unpack, one_shl}

unpack_byte : (s : List ℕ) (q : ℕ) → q < length s → take 8 (drop (8 * q) (unpack s)) ≡ bits 8 (get_or s q 0)
unfolding unpack
unpack_byte [] q h = absurd (not-suc-le-zero h)
unpack_byte (x ∷ s) zero h = take_at (bits 8 x) (unpack s) 8 (length_bits 8 x)
unpack_byte (x ∷ s) (suc q) h =
    let e : 8 * suc q ≡ 8 + 8 * q = omega arith in
    rw (e, ← drop-drop (8 * q) 8 (bits 8 x ++ unpack s), drop_at (bits 8 x) (unpack s) 8 (length_bits 8 x)) (unpack_byte s q (le_of_suc-le-suc h))

-- one byte more
field_byte : (s : List ℕ) (at w q : ℕ) → at + w ≡ 8 * q → q < length s → get_or s q 0 < 256
    → field s at (w + 8) ≡ field s at w * 256 + get_or s q 0
unfolding field
field_byte s at w q e h hb =
    let l : List Bool = drop at (unpack s) in
    let d : take 8 (drop w l) ≡ bits 8 (get_or s q 0) = ap (take 8) (drop-drop w at (unpack s) ∙ ap (λ (n : ℕ). drop n (unpack s)) e) ∙ unpack_byte s q h in
    ap num (take-add w 8 l ∙ ap (λ (r : List Bool). take w l ++ r) d)
    ∙ num_append (take w l) (bits 8 (get_or s q 0))
    ∙ ap₂ (λ (n r : ℕ). num (take w l) * 2 ^ n + r) (length_bits 8 (get_or s q 0)) (num_of 8 (get_or s q 0) hb)

-- a part of a field
field_part : (s : List ℕ) (a p w c : ℕ) → a + (p + w + c) ≤ 8 * length s → field s a (p + w + c) / 2 ^ c % 2 ^ w ≡ field s (a + p) w
unfolding field
field_part s a p w c h =
    let l : List Bool = drop a (unpack s) in
    let n : length l ≡ 8 * length s - a = length-drop a (unpack s) ∙ ap (λ (k : ℕ). k - a) (length_unpack s) in
    let t : List Bool = take c (drop (p + w) l) in
    let m : List Bool = take w (drop p l) in
    let lt : length t ≡ c = length-take-le c (drop (p + w) l) (rw (length-drop (p + w) l) (omega arith)) in
    let lm : length m ≡ w = length-take-le w (drop p l) (rw (length-drop p l) (omega arith)) in
    let e₁ : num (take (p + w + c) l) ≡ num (take (p + w) l) * 2 ^ c + num t =
    ap num (take-add (p + w) c l) ∙ num_append (take (p + w) l) t ∙ ap (λ (k : ℕ). num (take (p + w) l) * 2 ^ k + num t) lt in
    let e₂ : num (take (p + w) l) ≡ num (take p l) * 2 ^ w + num m =
    ap num (take-add p w l) ∙ num_append (take p l) m ∙ ap (λ (k : ℕ). num (take p l) * 2 ^ k + num m) lm in
    ap (λ (k : ℕ). k / 2 ^ c % 2 ^ w) e₁
    ∙ ap (λ (k : ℕ). k % 2 ^ w) (high (num (take (p + w) l)) c (subst (λ (k : ℕ). num t < 2 ^ k) lt (num_lt t)))
    ∙ ap (λ (k : ℕ). k % 2 ^ w) e₂
    ∙ low (num (take p l)) w (subst (λ (k : ℕ). num m < 2 ^ k) lm (num_lt m))
    ∙ ap (λ (x : List Bool). num (take w x)) (drop-drop p a (unpack s))

-- a turn of the loop that gathers bytes from byte f, with the numbers as code has them
pub gather_turn : (s : List ℕ) (f i acc : ℕ) → acc ≡ field s (8 * f) (8 * (i - f)) → f ≤ i → i < length s → get_or s i 0 < 256
    → acc * 256 + get_or s i 0 ≡ field s (8 * f) (8 * (i + 1 - f))
gather_turn s f i acc e hf hi hb =
    let n : 8 * (i + 1 - f) ≡ 8 * (i - f) + 8 = omega arith in
    rw (n, field_byte s (8 * f) (8 * (i - f)) i (omega arith) hi hb, e)

-- the field in the n bytes gathered from byte f, once the c bits after it, and those before it, are cut off
pub gather_done : (s : List ℕ) (at w f n c acc : ℕ) → acc ≡ field s (8 * f) (8 * n)
    → f + n ≤ length s → 8 * f ≤ at → at + w + c ≡ 8 * (f + n) → w < 64 → acc / 2 ^ c % (1 * 2 ^ w % 2 ^ 64) ≡ field s at w
gather_done s at w f n c acc e hn hf hc hw =
    let p : ℕ = at - 8 * f in
    let m : 8 * n ≡ p + w + c = omega arith in
    let a : 8 * f + p ≡ at = omega arith in
    rw (one_shl w 64 hw, e, m, field_part s (8 * f) p w c (omega arith), a)
