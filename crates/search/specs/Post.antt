-- What the functions of the search ensure. Assumes nothing.
use Rattle.std.specs.Prelude.{ℕ, ◌+◌, ◌*◌, ◌≤◌, ◌<◌, ◌≡◌, List, length, get_or, take, drop}
use Rattle.paper.specs.Frame.{most_terms, most_listed}
use Rattle.paper.specs.Layout.{slots}
use Rattle.paper.specs.Impact.{top}
use Rattle.paper.specs.Window.{Message}
use Rattle.paper.specs.Rank as Rank
use Rattle.paper.specs.Sound.{Terms, Distinct}
use Rattle.paper.specs.Search as Search
use Rattle.rank.specs.declared.Ranked.{Ranked}
use Rattle.rank.specs.Listing.{keyed, keyed_of, last_score_of, Tidy}
use Rattle.rank.specs.Weights.{weight_limit, Below}
use Rattle.window.specs.Rows.{row_width}
use Rattle.candidates.specs.declared.query.Query.{Query}
use Rattle.query.specs.Post.{Is, Over}
use Rattle.search.specs.declared.Outcome.{Outcome}
use Rattle.search.specs.Cut.{sum_at, read_at}

-- ranges that a query of a frame has: no weight of its terms is 0
pub record Fit (r : Query) : Type 0 where
  pub k_most : r.k ≤ most_listed
  pub n_most : r.n ≤ most_terms
  pub weights_least : (p : ℕ) → p < r.n → 1 ≤ get_or r.weights p 0
  pub weights_most : Below r.n weight_limit r.weights

-- one column: the impacts of the first m messages looked at in the term at place p
pub record Column (rows : List ℕ) (m p : ℕ) (xs : List ℕ) : Type 0 where
  pub long : length xs ≡ m
  pub are : (i : ℕ) → i < m → get_or xs i 0 ≡ get_or rows (row_width * i + 1 + p) 0

-- those of the first n terms, each with room for all of the window
pub record Columns (rows : List ℕ) (m n : ℕ) (cols : List ℕ) : Type 0 where
  pub long : length cols ≡ most_terms * slots
  pub are : (p i : ℕ) → p < n → i < m → get_or cols (slots * p + i) 0 ≡ get_or rows (row_width * i + 1 + p) 0

abbrev pub column : List ℕ → ℕ → ℕ → List ℕ
column cols m p = take m (drop (slots * p) cols)

abbrev pub sum_by : List ℕ → ℕ → Query → ℕ → ℕ
sum_by cols m r x = sum_at r.n r.weights (column cols m) x

abbrev pub read_by : List ℕ → ℕ → Query → ℕ → ℕ
read_by cols m r x = read_at r.n r.weights (column cols m) x

-- no posting is as high: a weight times an impact is below this
abbrev pub height_limit : ℕ
height_limit = weight_limit * top * most_terms

-- where a search ends that has to come below a score: the next postings sum to less there, and to no less at any cut above
pub record EndsAt (cols : List ℕ) (m : ℕ) (r : Query) (s x : ℕ) : Type 0 where
  pub inside : x < height_limit
  pub below : 0 < s → sum_by cols m r x < s
  pub above : (z : ℕ) → x < z → z < height_limit → s ≤ sum_by cols m r z

-- the postings read for this list: all of a list that isn't full
pub record ReadFor (cols : List ℕ) (m : ℕ) (r : Query) (list : Ranked) (n : ℕ) : Type 0 where
  pub full : list.count ≡ r.k → (x : ℕ) × EndsAt cols m r (last_score_of (keyed_of list)) x × (n ≡ read_by cols m r x)
  pub short : (list.count ≡ r.k → ⊥) → n ≡ read_by cols m r 0

-- the search over the window that is `count` slots from slot `first` on
pub record WindowSearch (w : List ℕ) (first count : ℕ) (r : Query) (found : Outcome) : Type 0 where
  pub most : found.list.count ≤ most_listed
  pub tidy : Tidy found.list
  pub right : (ms : List Message) (q : Rank.Query) → Over w first count ms → Distinct ms → Terms q → Is r q
      → (keyed_of found.list ≡ keyed (Search.search q ms).list) × (found.read ≡ (Search.search q ms).read)
