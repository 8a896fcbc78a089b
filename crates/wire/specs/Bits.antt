-- The bits of bytes, most significant bit first, and the numbers that bits spell.
-- Document 01: "Bit-packed, most significant bit first." Assumes nothing.
use Rattle.std.specs.Prelude.{ℕ, zero, suc, ◌+◌, ◌*◌, ◌/◌, ◌%◌, ◌^◌, ◌<◌, Bool, true, false, List, [], ◌∷◌, ◌++◌, length, take, drop, get_or, eqb}

-- every element is a byte
abbrev pub Bytes : List ℕ → Type 0
Bytes s = (i : ℕ) → get_or s i 0 < 256

-- a bit as a number
abbrev pub val : Bool → ℕ
val true = 1
val false = 0

-- the lowest bit of a number
unfoldable pub odd : ℕ → Bool
odd n = eqb (n % 2) 1

-- the `w` lowest bits of a number, the most significant first
unfoldable pub bits : ℕ → ℕ → List Bool
bits zero v = []
bits (suc w) v = odd (v / 2 ^ w) ∷ bits w v

-- the number that bits spell, the most significant first
unfoldable pub num : List Bool → ℕ
num [] = 0
num (b ∷ bs) = val b * 2 ^ length bs + num bs

-- all bits of a list of bytes
unfoldable pub unpack : List ℕ → List Bool
unpack [] = []
unpack (x ∷ xs) = bits 8 x ++ unpack xs

-- `n` bytes of a list of bits
unfoldable pub pack : ℕ → List Bool → List ℕ
pack zero bs = []
pack (suc n) bs = num (take 8 bs) ∷ pack n (drop 8 bs)
