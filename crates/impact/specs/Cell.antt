-- A cell: one pair of a message with its impact, packed into a word. Assumes nothing.
use Rattle.std.specs.Prelude.{ℕ, zero, suc, ◌+◌, ◌-◌, ◌*◌, ◌/◌, ◌%◌, ◌^◌, ◌<◌, cond, List, [], ◌∷◌, map, length, get_or, eqb}
use Rattle.paper.specs.Frame.{Pair, count_width, most_pairs}
use Rattle.paper.specs.Impact.{impact, squares}

-- ten bits of term, eight of count, fourteen of impact
abbrev pub impact_width : ℕ
impact_width = 14

abbrev pub count_factor : ℕ
count_factor = 2 ^ impact_width

abbrev pub term_factor : ℕ
term_factor = count_factor * 2 ^ count_width

abbrev pub packed : ℕ → ℕ → ℕ → ℕ
packed term count impact = term * term_factor + count * count_factor + impact

abbrev pub cell_term : ℕ → ℕ
cell_term c = c / term_factor

abbrev pub cell_impact : ℕ → ℕ
cell_impact c = c % count_factor

abbrev pub cell_count : ℕ → ℕ
cell_count c = c / count_factor % 2 ^ count_width

-- the cell of a pair of a message whose counts squared sum to n
abbrev pub cell_of : ℕ → Pair → ℕ
cell_of n p = packed p.term p.amount (impact p.amount n)

-- the cells of a message
unfoldable pub cells_of : List Pair → List ℕ
cells_of ps = map (cell_of (squares ps)) ps

-- the sum of the first m numbers squared
unfoldable pub squares_of : ℕ → List ℕ → ℕ
squares_of zero fs = 0
squares_of (suc m) [] = 0
squares_of (suc m) (f ∷ fs) = f * f + squares_of m fs

-- the sum of the counts squared of these cells, and the most that it comes to
abbrev pub cell_squares : List ℕ → ℕ
cell_squares cs = squares_of (length cs) (map cell_count cs)

abbrev pub most_squares : ℕ
most_squares = most_pairs * ((2 ^ count_width - 1) * (2 ^ count_width - 1))

-- the first cell with a term, 0 where none has it: as a cell that would be no impact and no count
unfoldable pub cell_with : ℕ → List ℕ → ℕ
cell_with t [] = 0
cell_with t (c ∷ cs) = cond (eqb (cell_term c) t) c (cell_with t cs)

-- the impact of a term in the message with these cells, 0 where it lacks the term
unfoldable pub lookup : ℕ → List ℕ → ℕ
lookup t [] = 0
lookup t (c ∷ cs) = cond (eqb (cell_term c) t) (cell_impact c) (lookup t cs)

-- the terms of the cells rise strictly, and so do the first n of a query's terms
abbrev pub RisingCells : List ℕ → Type 0
RisingCells cs = (i j : ℕ) → i < j → j < length cs → cell_term (get_or cs i 0) < cell_term (get_or cs j 0)

abbrev pub RisingTerms : ℕ → List ℕ → Type 0
RisingTerms n ts = (i j : ℕ) → i < j → j < n → get_or ts i 0 < get_or ts j 0
