-- A bit field of any width at any place, and a layout: fields one after the other.
-- Document 01: "Fields are taken in order from one reader over the frame's bytes." Assumes nothing.
use Rattle.std.specs.Prelude.{ℕ, ◌+◌, ◌<◌, ◌^◌, Bool, List, [], ◌∷◌, ◌++◌, take, drop}
use Rattle.wire.specs.Bits.{bits, num, unpack}

-- the number in the `w` bits from bit `at`
unfoldable pub field : List ℕ → ℕ → ℕ → ℕ
field s at w = num (take w (drop at (unpack s)))

-- the bits of s, with the `w` bits from bit `at` replaced by those of v
unfoldable pub placed : List ℕ → ℕ → ℕ → ℕ → List Bool
placed s at w v = take at (unpack s) ++ bits w v ++ drop (at + w) (unpack s)

-- ---- a layout is the list of its fields' widths

-- how many bits it has
unfoldable pub total : List ℕ → ℕ
total [] = 0
total (w ∷ ws) = w + total ws

-- the bits of the values in fields of these widths
unfoldable pub spell : List ℕ → List ℕ → List Bool
spell [] vs = []
spell (w ∷ ws) [] = []
spell (w ∷ ws) (v ∷ vs) = bits w v ++ spell ws vs

-- the values in fields of these widths, from bit `at`
unfoldable pub scan : List ℕ → ℕ → List ℕ → List ℕ
scan s at [] = []
scan s at (w ∷ ws) = field s at w ∷ scan s (at + w) ws

-- there is a value for each field, and it fits
abbrev pub Fit : List ℕ → List ℕ → Type 0
Fit [] [] = Unit
Fit [] (v ∷ vs) = ⊥
Fit (w ∷ ws) [] = ⊥
Fit (w ∷ ws) (v ∷ vs) = (v < 2 ^ w) × Fit ws vs
