-- Where things stand in the state memory, in words of four bytes (docs/STATE.md): every offset and the length follow from document 01's sizes.
-- `src/layout.rt` says the same for the code. Assumes nothing.
use Rattle.std.specs.Prelude.{ℕ, ◌+◌, ◌*◌, ◌/◌}
use Rattle.paper.specs.Frame.{most_pairs, most_terms, most_listed, numbers}
use Rattle.paper.specs.Window.{most_messages}

-- ---- the header

abbrev pub capacity_at : ℕ
capacity_at = 0

abbrev pub life_at : ℕ
life_at = 1

abbrev pub clock_at : ℕ
clock_at = 2

abbrev pub oldest_at : ℕ
oldest_at = 3

abbrev pub count_at : ℕ
count_at = 4

abbrev pub header_words : ℕ
header_words = count_at + 1

-- ---- the ring of message slots: one more than can be in force, so that an arriving message never takes the slot of one that departs

abbrev pub slots : ℕ
slots = most_messages + 1

-- In columns, since most of what is looked for is one word of every slot: the times, then the serials, the numbers of cells with the urgencies above
-- them, and each slot's cells.
abbrev pub time_at : ℕ → ℕ
time_at j = header_words + j

abbrev pub serial_at : ℕ → ℕ
serial_at j = time_at slots + j

abbrev pub cell_count_at : ℕ → ℕ
cell_count_at j = serial_at slots + j

-- the number of cells is below this, and the urgency is counted in it
abbrev pub cell_limit : ℕ
cell_limit = 64

abbrev pub cells_at : ℕ → ℕ
cells_at j = cell_count_at slots + most_pairs * j

-- ---- the query records, after the ring

-- within a record: k, then the number of terms, the terms with their weights, and what is kept: the list's length, thresholds, serials, keys, flags
abbrev pub size_offset : ℕ
size_offset = 1

abbrev pub pairs_offset : ℕ
pairs_offset = size_offset + 1

abbrev pub listed_offset : ℕ
listed_offset = pairs_offset + most_terms

abbrev pub thresholds_offset : ℕ
thresholds_offset = listed_offset + 1

abbrev pub serials_offset : ℕ
serials_offset = thresholds_offset + most_terms

abbrev pub keys_offset : ℕ
keys_offset = serials_offset + most_listed

abbrev pub flags_offset : ℕ
flags_offset = keys_offset + most_listed

-- a flag for each slot, 32 in a word
abbrev pub flag_words : ℕ
flag_words = (slots + 31) / 32

abbrev pub record_words : ℕ
record_words = flags_offset + flag_words

abbrev pub record_at : ℕ → ℕ
record_at q = cells_at slots + record_words * q

abbrev pub size_in : ℕ → ℕ
size_in q = record_at q + size_offset

abbrev pub pairs_in : ℕ → ℕ
pairs_in q = record_at q + pairs_offset

abbrev pub listed_in : ℕ → ℕ
listed_in q = record_at q + listed_offset

abbrev pub thresholds_in : ℕ → ℕ
thresholds_in q = record_at q + thresholds_offset

abbrev pub serials_in : ℕ → ℕ
serials_in q = record_at q + serials_offset

abbrev pub keys_in : ℕ → ℕ
keys_in q = record_at q + keys_offset

abbrev pub flags_in : ℕ → ℕ
flags_in q = record_at q + flags_offset

-- ---- the whole

abbrev pub state_words : ℕ
state_words = record_at numbers

abbrev pub state_length : ℕ
state_length = 4 * state_words
