-- Lent memory as a list of words of four bytes: in state memory the least significant byte first, in what is written for a host the most
-- significant. Assumes nothing.
use Rattle.std.specs.Prelude.{ℕ, ◌+◌, ◌*◌, ◌/◌, ◌%◌, List, [], ◌∷◌, set}

-- ---- in either order

-- each four bytes as a number; up to three bytes that make no word are left out
unfoldable pub fours : (ℕ → ℕ → ℕ → ℕ → ℕ) → List ℕ → List ℕ
fours f [] = []
fours f (a ∷ []) = []
fours f (a ∷ b ∷ []) = []
fours f (a ∷ b ∷ c ∷ []) = []
fours f (a ∷ b ∷ c ∷ d ∷ s) = f a b c d ∷ fours f s

-- the bytes with the four at index i replaced, and no other byte changed
unfoldable pub put_four : List ℕ → ℕ → ℕ → ℕ → ℕ → ℕ → List ℕ
put_four s i a b c d = set (set (set (set s (4 * i) a) (4 * i + 1) b) (4 * i + 2) c) (4 * i + 3) d

-- ---- state memory: the least significant byte first

abbrev pub word : ℕ → ℕ → ℕ → ℕ → ℕ
word a b c d = a + b * 256 + c * 65536 + d * 16777216

-- the words of a list of bytes
unfoldable pub words : List ℕ → List ℕ
words s = fours word s

-- the bytes with the word at index i replaced by v, and no other byte changed
unfoldable pub put_word : List ℕ → ℕ → ℕ → List ℕ
put_word s i v = put_four s i (v % 256) (v / 256 % 256) (v / 65536 % 256) (v / 16777216 % 256)

-- ---- written for a host: the most significant byte first

abbrev pub big_word : ℕ → ℕ → ℕ → ℕ → ℕ
big_word a b c d = a * 16777216 + b * 65536 + c * 256 + d

-- the words of a list of bytes
unfoldable pub big_words : List ℕ → List ℕ
big_words s = fours big_word s

-- the bytes of words
unfoldable pub big_bytes : List ℕ → List ℕ
big_bytes [] = []
big_bytes (v ∷ w) = (v / 16777216 % 256) ∷ (v / 65536 % 256) ∷ (v / 256 % 256) ∷ (v % 256) ∷ big_bytes w

-- the bytes with the word at index i replaced by v, and no other byte changed
unfoldable pub put_big : List ℕ → ℕ → ℕ → List ℕ
put_big s i v = put_four s i (v / 16777216 % 256) (v / 65536 % 256) (v / 256 % 256) (v % 256)
