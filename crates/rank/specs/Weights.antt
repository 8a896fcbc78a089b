-- Sums over a query's weights, thresholds above which an impact lies, and thresholds raised until tight: paper's definitions without the terms.
-- Assumes nothing.
use Rattle.std.specs.Prelude.{ℕ, zero, suc, ◌+◌, ◌-◌, ◌*◌, ◌^◌, ◌≤◌, ◌<◌, ◌≡◌, Bool, false, ◌||◌, List, [], ◌∷◌, get_or, ltb}
use Rattle.paper.specs.Frame.{weight_width, most_terms}
use Rattle.paper.specs.Impact.{top}
use Rattle.impact.specs.Cell.{impact_width}

-- weights have four bits, and stored impacts and thresholds fourteen
abbrev pub weight_limit : ℕ
weight_limit = 2 ^ weight_width

abbrev pub most_weight : ℕ
most_weight = weight_limit - 1

abbrev pub value_limit : ℕ
value_limit = 2 ^ impact_width

abbrev pub most_value : ℕ
most_value = value_limit - 1

-- the first n places are below a limit
abbrev pub Below : ℕ → ℕ → List ℕ → Type 0
Below n limit xs = (i : ℕ) → i < n → get_or xs i 0 < limit

-- the sum of weight × value over the first n places
unfoldable pub weighted_sum : ℕ → List ℕ → List ℕ → ℕ
weighted_sum zero ws vs = 0
weighted_sum (suc n) [] vs = 0
weighted_sum (suc n) (w ∷ ws) [] = 0
weighted_sum (suc n) (w ∷ ws) (v ∷ vs) = w * v + weighted_sum n ws vs

-- whether one of the first n impacts is strictly above its threshold
unfoldable pub exceeding : ℕ → List ℕ → List ℕ → Bool
exceeding zero hs vs = false
exceeding (suc n) [] vs = false
exceeding (suc n) (h ∷ hs) [] = false
exceeding (suc n) (h ∷ hs) (v ∷ vs) = ltb h v || exceeding n hs vs

-- ---- raising

-- the first n thresholds are within the scale
abbrev pub InScale : ℕ → List ℕ → Type 0
InScale n hs = (i : ℕ) → i < n → get_or hs i 0 ≤ top

-- adding one to any of the first m thresholds that is below the top would bring the sum over n places to the k-th score or over
abbrev pub TightTo : ℕ → ℕ → List ℕ → ℕ → List ℕ → Type 0
TightTo m n ws kth hs = (i : ℕ) → i < m → get_or hs i 0 < top → kth ≤ weighted_sum n ws hs + get_or ws i 0

-- what raising starts from: n places, no weight 0, thresholds within the scale, and their sum below the k-th score
pub record Slack (n : ℕ) (ws hs : List ℕ) (kth : ℕ) : Type 0 where
  pub some : 1 ≤ n
  pub most : n ≤ most_terms
  pub weights : Below n weight_limit ws
  pub positive : (i : ℕ) → i < n → 1 ≤ get_or ws i 0
  pub in_scale : InScale n hs
  pub safe : weighted_sum n ws hs < kth

-- what `raised` says of its result: no threshold falls, and paper's rules for the thresholds of a full list hold
pub record Raised (n : ℕ) (ws hs : List ℕ) (kth : ℕ) (r : List ℕ) : Type 0 where
  pub higher : (i : ℕ) → get_or hs i 0 ≤ get_or r i 0
  pub others : (i : ℕ) → n ≤ i → get_or r i 0 ≡ get_or hs i 0
  pub in_scale : InScale n r
  pub safe : weighted_sum n ws r < kth
  pub tight : TightTo n n ws kth r

-- what `spread` says once it has passed the first m places: they are tight only where what was left is one part
pub record Spread (m n : ℕ) (ws hs : List ℕ) (kth parts : ℕ) (r : List ℕ) : Type 0 where
  pub higher : (i : ℕ) → get_or hs i 0 ≤ get_or r i 0
  pub others : (i : ℕ) → m ≤ i → get_or r i 0 ≡ get_or hs i 0
  pub in_scale : InScale m r
  pub safe : weighted_sum n ws r < kth
  pub tight : parts ≡ 1 → TightTo m n ws kth r
