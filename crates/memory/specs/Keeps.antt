-- What a writer leaves alone. Assumes nothing.
use Rattle.std.specs.Prelude.{ℕ, ◌+◌, ◌≤◌, ◌<◌, ◌≡◌, List, length, get_or, take, drop}

-- s' is as long as s, and differs from it only from index a up to, not including, index e
pub record Keeps (a e : ℕ) (s s' : List ℕ) : Type 0 where
  pub long : length s' ≡ length s
  pub below : (i : ℕ) → i < a → get_or s' i 0 ≡ get_or s i 0
  pub above : (i : ℕ) → e ≤ i → get_or s' i 0 ≡ get_or s i 0

-- the n words a were written from index i on, and no other word
pub record Stored (i n : ℕ) (a s s' : List ℕ) : Type 0 where
  pub keeps : Keeps i (i + n) s s'
  pub reads : take n (drop i s') ≡ a
