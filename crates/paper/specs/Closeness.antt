-- Closeness in print: how close a message is to a query, as the square of their cosine in tenths of a percent. Document 02, T-07. Assumes nothing.
use Rattle.std.specs.Prelude.{ℕ, ◌*◌, ◌/◌, ◌%◌, ◌≡◌, ◌↔◌, cond, List, [], ◌∷◌, eqb}
use Rattle.std.proofs.Math.Option.{Option, none, some}
use Rattle.paper.specs.Frame.{Pair, terms}
use Rattle.paper.specs.Impact.{squares, count_of, score_by}
use Rattle.paper.specs.Window.{Message}
use Rattle.paper.specs.Rank.{Query}
use Rattle.paper.specs.Order.{In}
use Rattle.paper.specs.Log.{Log, in_force_now, has_serial, query_at, is_in_use, lent}

-- ---- of a query's terms and a message's pairs

-- all of the scale
abbrev pub whole : ℕ
whole = 1000

-- "s the sum of weight × count": a term that the message lacks counts 0
abbrev pub shared_sum : List Pair → List Pair → ℕ
shared_sum qs ps = score_by (λ t. count_of t ps) qs

-- "1000 × s²"
abbrev pub dividend : List Pair → List Pair → ℕ
dividend qs ps = whole * (shared_sum qs ps * shared_sum qs ps)

-- "a × b": "a the message's sum of squared counts and b the query's sum of squared weights"
abbrev pub divisor : List Pair → List Pair → ℕ
divisor qs ps = squares ps * squares qs

pub record Closeness : Type 0 where
  pub quotient : ℕ
  pub remainder : ℕ

-- "the quotient and exact remainder of 1000 × s² by a × b"
unfoldable pub closeness : List Pair → List Pair → Closeness
closeness qs ps = record { quotient = dividend qs ps / divisor qs ps; remainder = dividend qs ps % divisor qs ps }

-- ---- where it is the whole

-- "counts and weights are in proportion and neither has a term the other lacks": for each two terms, count times the other's weight is the same
-- either way
pub record Proportional (qs ps : List Pair) : Type 0 where
  pub same_terms : (t : ℕ) → In t (terms ps) ↔ In t (terms qs)
  pub in_proportion : (t t' : ℕ) → count_of t ps * count_of t' qs ≡ count_of t' ps * count_of t qs

-- ---- asking

-- the pairs of the message with the serial: no two in force share one
unfoldable pub pairs_of : ℕ → List Message → List Pair
pairs_of s [] = []
pairs_of s (m ∷ ms) = cond (eqb m.serial s) m.pairs (pairs_of s ms)

-- "Arguments are a serial in force and a registered query, refused as 13 and 10, in that order, after 12." `needed` is how many bytes the answer takes
-- where it is written into lent ones, else 0.
unfoldable pub judge_closeness : ℕ → Log → ℕ → ℕ → ℕ → ℕ → ℕ
judge_closeness needed log state output s n =
    cond (lent state output needed)
    (cond (has_serial s (in_force_now log)) (cond (is_in_use (query_at log n)) 0 10) 13)
    12

abbrev pub unasked : Closeness
unasked = record { quotient = 0; remainder = 0 }

abbrev pub closeness_to : Option Query → List Pair → Closeness
closeness_to none ps = unasked
closeness_to (some q) ps = closeness q.terms ps

-- how close the message with the serial is to the query under the number, nothing where that is refused
unfoldable pub closeness_in : ℕ → Log → ℕ → ℕ → ℕ → ℕ → Closeness
closeness_in needed log state output s n =
    cond (eqb (judge_closeness needed log state output s n) 0) (closeness_to (query_at log n) (pairs_of s (in_force_now log))) unasked
