-- Lines of a screen in lent bytes. Document 02, T-08. Assumes nothing.
use Rattle.std.specs.Prelude.{ℕ, ◌*◌, List, [], ◌∷◌, ◌++◌, length, drop}
use Rattle.paper.specs.Screen.{ScreenLine, screen_line_length}
use Rattle.memory.specs.Words.{big_bytes}

-- "each a query (one byte), serial and score (four bytes each, highest first)"
abbrev pub screen_line_bytes : ScreenLine → List ℕ
screen_line_bytes p = p.number ∷ big_bytes (p.entry.serial ∷ p.entry.score ∷ [])

-- one after the other
unfoldable pub screen_bytes : List ScreenLine → List ℕ
screen_bytes [] = []
screen_bytes (p ∷ ps) = screen_line_bytes p ++ screen_bytes ps

-- lines, and then what stood there before
abbrev pub lines_into : List ScreenLine → List ℕ → List ℕ
lines_into ps out = screen_bytes ps ++ drop (screen_line_length * length ps) out
