-- How far a search reads, without its steps: the order of reading as a number, and a cut in it. Assumes nothing.
use Rattle.std.specs.Prelude.{ℕ, zero, suc, ◌+◌, ◌-◌, ◌*◌, ◌/◌, max, cond, List, [], ◌∷◌, get_or, leb, ltb}
use Rattle.paper.specs.Frame.{most_terms}

-- The height of a posting of weight × impact v in the term at place p. A search reads from the highest down: "lower term first among equals".
abbrev pub height : ℕ → ℕ → ℕ
height p v = v * most_terms + (most_terms - 1 - p)

-- the greatest impact in the term at place p, of weight w, whose posting isn't above a cut
abbrev pub cap : ℕ → ℕ → ℕ → ℕ
cap x p w = (x - (most_terms - 1 - p)) / most_terms / w

-- the greatest of some impacts that is at most c, 0 where there is none
unfoldable pub up_to : ℕ → List ℕ → ℕ
up_to c [] = 0
up_to c (v ∷ vs) = max (cond (leb v c) v 0) (up_to c vs)

-- how many are above c
unfoldable pub over : ℕ → List ℕ → ℕ
over c [] = 0
over c (v ∷ vs) = cond (ltb c v) 1 0 + over c vs

-- the sum of weight × impact of the next postings once all above a cut are read, by the impacts in each of the first n terms
unfoldable pub sum_at : ℕ → List ℕ → (ℕ → List ℕ) → ℕ → ℕ
sum_at zero ws impacts x = 0
sum_at (suc p) ws impacts x = sum_at p ws impacts x + get_or ws p 0 * up_to (cap x p (get_or ws p 0)) (impacts p)

-- how many postings are above a cut
unfoldable pub read_at : ℕ → List ℕ → (ℕ → List ℕ) → ℕ → ℕ
read_at zero ws impacts x = 0
read_at (suc p) ws impacts x = read_at p ws impacts x + over (cap x p (get_or ws p 0)) (impacts p)
