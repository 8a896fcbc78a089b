-- A field written by chunks that each lie in one byte: the start, the turn and the end of the loop of `put_bits`. Assumes nothing.
use mathlib.Core.Path.{◌≡◌, sym, ap, ap₂, ◌∙◌, subst}
use Prim.Native.Nat.{ℕ, zero, suc, ◌+◌, ◌-◌, ◌*◌, ◌/◌, ◌%◌, ◌^◌, ◌≤◌, ◌<◌}
use native.Mathlib.Nat.{add_assoc, mod-lt, le_of_eq, le_refl, lt_of_lt_of_le, not-suc-le-zero, le_of_suc-le-suc, sub_self}
use native.Mathlib.Omega.{arith}
use mathlib.Core.Bool.{Bool}
use mathlib.Core.List.{List, [], ◌∷◌, ◌++◌, append_assoc}
use lib.ListN.{length, take, drop, get_or, set, length-append}
use lib.Seq.{
  take-append-le,
  drop-append-le,
  take-append-add,
  drop-append-add,
  take_at,
  drop_at,
  take_all,
  paste,
  take-add,
  drop-drop,
  take-take,
  paste-zero,
  take-paste,
  drop-paste,
}
use lib.Pow.{pow_pos, pow-add, high, shr_lt}
use lib.Arith.{digits_lt}
use Rattle.wire.specs.Bits.{bits, unpack}
use Rattle.wire.specs.Field.{placed}
use Rattle.wire.proofs.BitLaws.{length_bits, bits_skip, bits_mod, bits_add, length_unpack}

-- b with x between the place t, above which its bits stay, and the place l, below which they stay
abbrev pub patched : ℕ → ℕ → ℕ → ℕ → ℕ
patched b t l x = b / t * t + (x * l + b % l)

-- the n bits from bit k (of k + (n + j)) replaced by those of x
bits_patch : (k n j b x : ℕ) → x < 2 ^ n
    → bits (k + (n + j)) (patched b (2 ^ (n + j)) (2 ^ j) x) ≡ paste (bits (k + (n + j)) b) k (bits n x) n
bits_patch k n j b x hx =
    let hi : ℕ = b / 2 ^ (n + j) in
    let lo : ℕ = b % 2 ^ j in
    let l : ℕ = x * 2 ^ j + lo in
    let v : ℕ = hi * 2 ^ (n + j) + l in
    let lo-lt : lo < 2 ^ j = mod-lt b (pow_pos j) in
    let l_lt : l < 2 ^ (n + j) = lt_of_lt_of_le (digits_lt hx lo-lt) (le_of_eq (sym (pow-add 2 n j))) in
    let e₁ : bits k (v / 2 ^ (n + j)) ≡ bits k hi = ap (bits k) (high hi (n + j) l_lt) in
    let e₂ : bits (n + j) v ≡ bits n x ++ bits j b =
    bits_skip (n + j) hi l ∙ bits_add n j l ∙ ap₂ (λ (c d : List Bool). c ++ d) (ap (bits n) (high x j lo-lt)) (bits_skip j x lo ∙ bits_mod j b) in
    let was : bits (k + (n + j)) b ≡ (bits k hi ++ bits n (b / 2 ^ j)) ++ bits j b =
    bits_add k (n + j) b ∙ ap (λ (c : List Bool). bits k hi ++ c) (bits_add n j b) ∙ sym (append_assoc (bits k hi) (bits n (b / 2 ^ j)) (bits j b)) in
    let front : length (bits k hi ++ bits n (b / 2 ^ j)) ≡ k + n =
    length-append (bits k hi) (bits n (b / 2 ^ j)) ∙ ap₂ (λ (c d : ℕ). c + d) (length_bits k hi) (length_bits n (b / 2 ^ j)) in
    let t₁ : take k (bits (k + (n + j)) b) ≡ bits k hi =
    rw (was, append_assoc (bits k hi) (bits n (b / 2 ^ j)) (bits j b)) (take_at (bits k hi) (bits n (b / 2 ^ j) ++ bits j b) k (length_bits k hi)) in
    let t₂ : take n (bits n x) ≡ bits n x = take_all n (bits n x) (le_of_eq (length_bits n x)) in
    let t₃ : drop (k + n) (bits (k + (n + j)) b) ≡ bits j b = rw was (drop_at (bits k hi ++ bits n (b / 2 ^ j)) (bits j b) (k + n) front) in
    bits_add k (n + j) v ∙ ap₂ (λ (c d : List Bool). c ++ d) e₁ e₂ ∙ sym (append_assoc (bits k hi) (bits n x) (bits j b))
    ∙ sym (λ i. t₁ i ++ t₂ i ++ t₃ i)

-- the same on a byte, with the bounds that the code needs
pub byte_patch : (b k n x t l : ℕ) → k + n ≤ 8 → b < 256 → x < 2 ^ n → t ≡ 2 ^ (8 - k) → l ≡ 2 ^ (8 - k - n)
    → (patched b t l x < 256) × (bits 8 (patched b t l x) ≡ paste (bits 8 b) k (bits n x) n)
byte_patch b k n x t l h hb hx et el =
    let j : ℕ = 8 - k - n in
    let e : k + (n + j) ≡ 8 = omega arith in
    let f : 8 - k ≡ n + j = omega arith in
    let low : x * 2 ^ j + b % 2 ^ j < 2 ^ (n + j) = lt_of_lt_of_le (digits_lt hx (mod-lt b (pow_pos j))) (le_of_eq (sym (pow-add 2 n j))) in
    let top : b / 2 ^ (n + j) < 2 ^ k = shr_lt k (n + j) (subst (λ (m : ℕ). b < 2 ^ m) (sym e) hb) in
    let lt : patched b (2 ^ (n + j)) (2 ^ j) x < 256 = lt_of_lt_of_le (digits_lt top low) (le_of_eq (sym (pow-add 2 k (n + j)) ∙ ap (λ (m : ℕ). 2 ^ m) e)) in
    let is : bits 8 (patched b (2 ^ (n + j)) (2 ^ j) x) ≡ paste (bits 8 b) k (bits n x) n =
    subst (λ (m : ℕ). bits m (patched b (2 ^ (n + j)) (2 ^ j) x) ≡ paste (bits m b) k (bits n x) n) e (bits_patch k n j b x hx) in
    rw (et ∙ ap (λ (m : ℕ). 2 ^ m) f, el) (lt, is)

-- a byte changed in a part changes that part of the whole
unpack_patch : (s : List ℕ) (q k n y : ℕ) (xs : List Bool) → q < length s → k + n ≤ 8 → length xs ≡ n → bits 8 y ≡ paste (bits 8 (get_or s q 0)) k xs n
    → unpack (set s q y) ≡ paste (unpack s) (8 * q + k) xs n
unfolding unpack
unpack_patch [] q k n y xs hq hk l e = absurd (not-suc-le-zero hq)
unpack_patch (z ∷ s) zero k n y xs hq hk l e =
    let p : 8 * 0 + k ≡ k = omega arith in
    let b : List Bool = bits 8 z in
    rw (p, e, take-append-le k b (unpack s) (rw (length_bits 8 z) (omega arith)), drop-append-le (k + n) b (unpack s) (rw (length_bits 8 z) hk))
    (append_assoc (take k b ++ take n xs) (drop (k + n) b) (unpack s))
unpack_patch (z ∷ s) (suc q) k n y xs hq hk l e =
    let b : List Bool = bits 8 z in
    let p : 8 * suc q + k ≡ length b + (8 * q + k) = omega (arith, length_bits 8 z) in
    let r : List Bool = drop (8 * q + k + n) (unpack s) in
    rw (
      p,
      unpack_patch s q k n y xs (le_of_suc-le-suc hq) hk l e,
      take-append-add b (unpack s) (8 * q + k),
      add_assoc (length b) (8 * q + k) n,
      drop-append-add b (unpack s) (8 * q + k + n),
    )
    (simp append_assoc)

-- one part after another
paste_more : (d : List Bool) (at : ℕ) (s : List Bool) (i n : ℕ) → at ≤ length d → i ≤ length s
    → paste (paste d at s i) (at + i) (take n (drop i s)) n ≡ paste d at s (i + n)
paste_more d at s i n hd hs =
    let t₁ : take (at + i) (paste d at s i) ≡ take at d ++ take i s = take-paste d at s i hd hs in
    let t₂ : take n (take n (drop i s)) ≡ take n (drop i s) = take-take n n (drop i s) (le_refl n) in
    let t₃ : drop (at + i + n) (paste d at s i) ≡ drop (at + (i + n)) d =
    sym (drop-drop n (at + i) (paste d at s i)) ∙ ap (drop n) (drop-paste d at s i hd hs) ∙ drop-drop n (at + i) d
    ∙ ap (λ (k : ℕ). drop k d) (add_assoc at i n) in
    (λ j. t₁ j ++ t₂ j ++ t₃ j) ∙ ap (λ (l : List Bool). l ++ drop (at + (i + n)) d) (append_assoc (take at d) (take i s) (take n (drop i s))
    ∙ ap (λ (l : List Bool). take at d ++ l) (sym (take-add i n s)))

-- the bits of a chunk of a number
bits_chunk : (i n c v : ℕ) → bits n (v / 2 ^ c % 2 ^ n) ≡ take n (drop i (bits (i + (n + c)) v))
bits_chunk i n c v =
    sym (rw (
      bits_add i (n + c) v,
      drop_at (bits i (v / 2 ^ (n + c))) (bits (n + c) v) i (length_bits i (v / 2 ^ (n + c))),
      bits_add n c v,
      take_at (bits n (v / 2 ^ c)) (bits c v) n (length_bits n (v / 2 ^ c)),
    )
    (sym (bits_mod n (v / 2 ^ c))))

-- ---- the loop of `put_bits`

-- the bits of s once all but the last `left` of the w bits from bit `at` are replaced by those of v
unfoldable pub written : List ℕ → ℕ → ℕ → ℕ → ℕ → List Bool
written s at w v left = paste (unpack s) at (bits w v) (w - left)

pub chunks_start : (s : List ℕ) (at w v : ℕ) → unpack s ≡ written s at w v w
unfolding written
chunks_start s at w v = rw sub_self (paste-zero (unpack s) at (bits w v))

-- the next n bits go into byte q from its bit k
pub chunks_turn : (s₀ s : List ℕ) (at w v left q k n y x : ℕ)
    → unpack s ≡ written s₀ at w v left
    → bits 8 y ≡ paste (bits 8 (get_or s q 0)) k (bits n x) n
    → x ≡ v / 2 ^ (left - n) % 2 ^ n
    → length s ≡ length s₀ → at + w ≤ 8 * length s₀ → 8 * q + k + left ≡ at + w → left ≤ w → 0 < n → n ≤ left → k + n ≤ 8
    → unpack (set s q y) ≡ written s₀ at w v (left - n)
unfolding written
chunks_turn s₀ s at w v left q k n y x inv hy hx hl hw hp hi hz hn hk =
    let i : ℕ = w - left in
    let e : 8 * q + k ≡ at + i = omega arith in
    let f : i + (n + (left - n)) ≡ w = omega arith in
    let g : i + n ≡ w - (left - n) = omega arith in
    let b : bits n x ≡ take n (drop i (bits w v)) = ap (bits n) hx ∙ bits_chunk i n (left - n) v ∙ ap (λ (m : ℕ). take n (drop i (bits m v))) f in
    unpack_patch s q k n y (bits n x) (omega arith) hk (length_bits n x) hy
    ∙ (λ j. paste (inv j) (e j) (b j) n)
    ∙ paste_more (unpack s₀) at (bits w v) i n (rw (length_unpack s₀) (omega arith)) (rw (length_bits w v) (omega arith))
    ∙ ap (paste (unpack s₀) at (bits w v)) g

pub chunks_done : (s : List ℕ) (at w v left : ℕ) → left ≡ 0 → written s at w v left ≡ placed s at w v
unfolding written placed
chunks_done s at w v left e =
    let f : w - left ≡ w = omega arith in
    rw (f, take_all w (bits w v) (le_of_eq (length_bits w v)))
