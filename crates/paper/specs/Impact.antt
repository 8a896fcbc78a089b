-- Impact and score: the cosine of document 001, formula (1), in whole numbers.
-- Document 01, "Window, impact, rank". Assumes nothing.
use Rattle.std.specs.Prelude.{ℕ, zero, suc, ◌+◌, ◌*◌, Bool, cond, List, [], ◌∷◌, eqb, leb}
use Rattle.paper.specs.Frame.{Pair}

-- "1,000 is the top of the scale", and "1,000 becomes 2,000" (T-06), so that no term of a message comes out as 0
abbrev pub top : ℕ
top = 2000

-- "w² × n ≤ (1000 × f)²", on the scale to the top
abbrev pub meets : ℕ → ℕ → ℕ → Bool
meets f n w = leb (w * w * n) ((top * f) * (top * f))

-- the greatest number up to w that passes a test, 0 where none from 1 on does
unfoldable pub greatest : (ℕ → Bool) → ℕ → ℕ
greatest test zero = 0
greatest test (suc w) = let below = greatest test w in cond (test (suc w)) (suc w) below

-- "the greatest whole w" that meets this: of a count f in a message whose counts squared sum to n, none is above the top
unfoldable pub impact : ℕ → ℕ → ℕ
impact f n = greatest (meets f n) top

-- "whose counts squared sum to n"
unfoldable pub squares : List Pair → ℕ
squares [] = 0
squares (p ∷ ps) = p.amount * p.amount + squares ps

-- the count of a term, 0 where it is lacking
unfoldable pub count_of : ℕ → List Pair → ℕ
count_of t [] = 0
count_of t (p ∷ ps) = cond (eqb p.term t) p.amount (count_of t ps)

-- "A term that a message lacks has impact 0"
unfoldable pub impact_in : List Pair → ℕ → ℕ
impact_in ps t = cond (eqb (count_of t ps) 0) 0 (impact (count_of t ps) (squares ps))

-- "the sum of weight × impact over the query's terms", whatever gives a term's impact
unfoldable pub score_by : (ℕ → ℕ) → List Pair → ℕ
score_by impacts [] = 0
score_by impacts (q ∷ qs) = q.amount * impacts q.term + score_by impacts qs

-- "A message's score for a query"
abbrev pub score : List Pair → List Pair → ℕ
score qs ps = score_by (impact_in ps) qs
