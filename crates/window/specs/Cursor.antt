-- What each function of the window ensures. Assumes nothing.
use Rattle.std.specs.Prelude.{ℕ, suc, ◌+◌, ◌-◌, ◌%◌, ◌≤◌, ◌<◌, ◌≡◌, ◌⊎◌, List, length, get_or}
use Rattle.paper.specs.Window.{Message}
use Rattle.paper.specs.Layout.{clock_at, oldest_at, count_at, header_words, slots, serial_at, cell_count_at}
use Rattle.memory.specs.Keeps.{Keeps}
use Rattle.window.specs.Slot.{InSlot, slot, stored, silenced, window, drop_past}

-- what is read of the header: itself where it is in range, and in range whatever memory holds
pub record Loaded (w : List ℕ) (clock oldest count : ℕ) : Type 0 where
  pub clock_is : clock ≡ get_or w clock_at 0
  pub oldest_below : oldest < slots
  pub oldest_is : get_or w oldest_at 0 < slots → oldest ≡ get_or w oldest_at 0
  pub count_below : count < slots
  pub count_is : get_or w count_at 0 < slots → count ≡ get_or w count_at 0

-- the header's clock, oldest slot and count are written, and nothing else
pub record PutCursor (clock oldest count : ℕ) (w w' : List ℕ) : Type 0 where
  pub keeps : Keeps clock_at header_words w w'
  pub clock_is : get_or w' clock_at 0 ≡ clock
  pub oldest_is : get_or w' oldest_at 0 ≡ oldest
  pub count_is : get_or w' count_at 0 ≡ count

-- a window whose oldest slots left: it starts as many slots later as it is shorter
pub record Moved (o n o' n' : ℕ) : Type 0 where
  pub count_most : n' ≤ n
  pub oldest_is : o' ≡ (o + (n - n')) % slots

-- the window after past messages left
pub record Advanced (w : List ℕ) (T o n clock clock' o' n' : ℕ) : Type 0 where
  pub clock_is : clock' ≡ clock
  pub moved : Moved o n o' n'
  pub shows : window w o' n' ≡ drop_past T clock (window w o n)

-- the window with room for one more: the oldest left where N are there
pub record Roomy (N clock o n clock' o' n' : ℕ) : Type 0 where
  pub clock_is : clock' ≡ clock
  pub moved : Moved o n o' n'
  pub room : n < N → n' ≡ n
  pub full : N ≤ n → 0 < n → n ≡ suc n'

-- no word but some is changed
pub record KeepsBut (Changed : ℕ → Type 0) (w w' : List ℕ) : Type 0 where
  pub long : length w' ≡ length w
  pub rest : (i : ℕ) → (Changed i → ⊥) → get_or w' i 0 ≡ get_or w i 0

-- a message written into a slot
pub record Written (j : ℕ) (m : Message) (w w' : List ℕ) : Type 0 where
  pub keeps : KeepsBut (InSlot j) w w'
  pub holds : slot w' j ≡ stored m

-- a message cancelled in its slot: its time and its cells stand where they stood
pub record Cancelled (j : ℕ) (w w' : List ℕ) : Type 0 where
  pub keeps : KeepsBut (λ i. (i ≡ serial_at j) ⊎ (i ≡ cell_count_at j)) w w'
  pub silent : slot w' j ≡ silenced (slot w j)
