-- What a slot of the ring holds, and the slots that are in the window. `w` is the state memory in words. Assumes nothing.
use Rattle.std.specs.Prelude.{ℕ, zero, suc, ◌+◌, ◌*◌, ◌/◌, ◌%◌, ◌^◌, ◌≤◌, ◌<◌, min}
use Rattle.std.specs.Prelude.{Bool, false, cond, ◌||◌, ◌≡◌, ◌⊎◌, List, [], ◌∷◌, map, length, get_or, take, drop, eqb, ltb}
use Rattle.std.specs.Prelude.{Option, MatchOption}
use Rattle.paper.specs.Frame.{level, most_pairs, serial_width, urgency_width}
use Rattle.paper.specs.Sort.{select}
use Rattle.paper.specs.Window.{Message, past}
use Rattle.paper.specs.Layout.{slots, cell_limit, time_at, serial_at, cell_count_at, cells_at}
use Rattle.impact.specs.Cell.{cells_of}

pub record Slot : Type 0 where
  pub time : ℕ
  pub serial : ℕ
  pub urgency : ℕ
  pub size : ℕ
  pub cells : List ℕ

-- how many cells a slot has, at most as many as it has room for whatever memory says
abbrev pub size_at : List ℕ → ℕ → ℕ
size_at w j = min (get_or w (cell_count_at j) 0 % cell_limit) most_pairs

-- The word with the number of cells has the urgency above it.
unfoldable pub slot : List ℕ → ℕ → Slot
slot w j =
    record {
      time = get_or w (time_at j) 0;
      serial = get_or w (serial_at j) 0;
      urgency = get_or w (cell_count_at j) 0 / cell_limit;
      size = get_or w (cell_count_at j) 0 % cell_limit;
      cells = take (size_at w j) (drop (cells_at j) w);
    }

-- the words of slot j
abbrev pub InSlot : ℕ → ℕ → Type 0
InSlot j i = (i ≡ time_at j) ⊎ ((i ≡ serial_at j) ⊎ ((i ≡ cell_count_at j) ⊎ ((cells_at j ≤ i) × (i < cells_at (suc j)))))

-- how urgent a slot's message is, of no more bits than a frame gives an urgency whatever memory says
abbrev pub grade_in : Slot → ℕ
grade_in x = x.urgency % 2 ^ urgency_width

-- the slot that a message is stored in: the size is its number of pairs
unfoldable pub stored : Message → Slot
stored m =
    record {
      time = m.time;
      serial = m.serial;
      urgency = level m.urgency;
      size = length m.pairs;
      cells = cells_of m.pairs;
    }

-- A slot once its message is cancelled: it has no cells, and its serial is none that a frame can say. How many cells it had stands above the bits of
-- the serial; the urgency stays.
unfoldable pub silenced : Slot → Slot
silenced x =
    record {
      time = x.time;
      serial = x.serial % 2 ^ serial_width + 2 ^ serial_width * min x.size most_pairs;
      urgency = grade_in x;
      size = 0;
      cells = [];
    }

-- the slot of a message that fills a place, cancelled or not
abbrev pub held : Message → Slot
held m = cond m.cancelled (silenced (stored m)) (stored m)

abbrev pub next : ℕ → ℕ
next j = (j + 1) % slots

-- n slots from slot o on, around the ring
unfoldable pub ring : ℕ → ℕ → List ℕ
ring o zero = []
ring o (suc n) = o ∷ ring (next o) n

abbrev pub window : List ℕ → ℕ → ℕ → List Slot
window w o n = map (slot w) (ring o n)

-- of some slots, those whose messages are in force: a cancelled message has no cells
unfoldable pub live : List ℕ → List ℕ → List ℕ
live w js = select (λ j. ltb 0 (slot w j).size) js

-- the slots from the first that isn't past on
unfoldable pub drop_past : ℕ → ℕ → List Slot → List Slot
drop_past T clock [] = []
drop_past T clock (x ∷ xs) = cond (past T clock x.time) (drop_past T clock xs) (x ∷ xs)

-- the first of some slots whose message has the serial; past the last slot where none has
unfoldable pub seek : List ℕ → ℕ → List ℕ → ℕ
seek w s [] = slots
seek w s (j ∷ js) = cond (eqb (slot w j).serial s) j (seek w s js)

-- that slot, and none where it would be past the last
abbrev pub Sought : List ℕ → ℕ → List ℕ → Option ℕ → Type 0
Sought w s js r = MatchOption r (seek w s js ≡ slots) (λ j. (seek w s js ≡ j) × (j < slots))

unfoldable pub holds_serial : ℕ → List Slot → Bool
holds_serial s [] = false
holds_serial s (x ∷ xs) = eqb x.serial s || holds_serial s xs
