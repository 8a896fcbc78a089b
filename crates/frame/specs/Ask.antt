-- What the reader of a search's frame answers: the query that is asked for, its terms in two arrays, or its refusal.
-- Document 02, T-05. Assumes nothing.
use Rattle.std.specs.Prelude.{ℕ, ◌≡◌, cond, List, length, eqb, ltb, Result, MatchResult}
use Rattle.std.proofs.Math.Option.{some}
use Rattle.wire.specs.Field.{field}
use Rattle.paper.specs.Frame.{Shape, kind_width}
use Rattle.paper.specs.Frame.Shape.{refused}
use Rattle.paper.specs.Rank.{Query}
use Rattle.paper.specs.Refusal.{number_of}
use Rattle.paper.specs.Search.{query_in}
use Rattle.paper.specs.declared.refusal.Refusal.{Refusal}
use Rattle.frame.specs.declared.Asked.{Asked}
use Rattle.frame.specs.Read.{term_array, amount_array}

-- the query that a shape asks for
pub record AskedQuery (sh : Shape) (a : Asked) : Type 0 where
  pub query : Query
  pub is : query_in sh ≡ some query
  pub k : a.k ≡ query.k
  pub n : a.n ≡ length query.terms
  pub terms : a.terms ≡ term_array query.terms
  pub weights : a.weights ≡ amount_array query.terms

-- the promise of `read_asked`, for what its bytes ask
abbrev pub AskedPost : Shape → Result Asked Refusal → Type 0
AskedPost sh r = MatchResult r (AskedQuery sh) (λ e. sh ≡ refused (number_of e))

-- the number that refuses a search, of a frame that this number refuses: "every kind but 3 refused as 2", unless it is too short
unfoldable pub asked_number : List ℕ → ℕ → ℕ
asked_number s number = cond (ltb (length s) 5) number (cond (eqb (field s 0 kind_width) 3) number 2)
