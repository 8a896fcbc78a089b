-- The sums that closeness is made of: how large they get, and that they are the paper's where a slot holds a message. Assumes nothing.
use Prim.Native.Nat.{ℕ, zero, suc, ◌+◌, ◌*◌, ◌/◌, ◌%◌, ◌≤◌, ◌<◌, max}
use native.Mathlib.Nat.{mul-le-mul, min-le_right, min-eq_left}
use native.Mathlib.Omega.{arith}
use mathlib.Core.Path.{◌≡◌, refl, sym, ap, ◌∙◌}
use mathlib.Core.List.{List, [], ◌∷◌}
use lib.ListN.{length}
use Rattle.paper.specs.Frame.{Pair, Pairs, count_width, most_pairs}
use Rattle.paper.specs.Impact.{squares, count_of, score_by}
use Rattle.paper.specs.Window.{Message}
use Rattle.paper.specs.Rank as Rank
use Rattle.paper.specs.Sound.{Terms}
use Rattle.paper.specs.Closeness.{whole, shared_sum, closeness}
use Rattle.paper.proofs.ClosenessLaws.{positive_divisor, quotient_most}
use Rattle.impact.specs.Cell.{most_squares, cells_of, squares_of, cell_squares}
use Rattle.impact.proofs.CellLaws.{count_cells, squares_cells, squares_side}
use Rattle.rank.specs.Weights.{weighted_sum}
use Rattle.window.specs.Slot.{Slot, stored}
use Rattle.candidates.specs.declared.query.Query.{Query}
use Rattle.candidates.specs.Post.{terms_of}
use Rattle.candidates.proofs.MeasureLaws.{score_found}
use Rattle.query.specs.Post.{Is}
use Rattle.closeness.specs.declared.Closeness.{Closeness}
use Rattle.closeness.specs.Post.{count_among, Counts, most_shared, most_weight_squares, Divided, told_of, SlotCloseness}

-- ---- how large they get

pub shared_most : (s : ℕ) → s ≤ most_shared → s * s ≤ most_shared * most_shared
shared_most s h = mul-le-mul {n₂ = most_shared} {m₂ = most_shared} h h

pub divisor_most : (a b : ℕ) → a ≤ most_squares → b ≤ most_weight_squares → a * b ≤ most_squares * most_weight_squares
divisor_most a b ha hb = mul-le-mul {n₂ = most_squares} {m₂ = most_weight_squares} ha hb

-- ---- what they are

-- weights by themselves
sum_squares : (n : ℕ) (ws : List ℕ) → weighted_sum n ws ws ≡ squares_of n ws
unfolding weighted_sum squares_of
sum_squares zero ws = refl
sum_squares (suc n) [] = refl
sum_squares (suc n) (w ∷ ws) = ap (λ (x : ℕ). w * w + x) (sum_squares n ws)

-- the division by sums that are above 0
exact : {s a b : ℕ} {r : Closeness} → Divided s a b r → 0 < a * b → whole * (s * s) / (a * b) ≤ whole
    → (r.quotient ≡ whole * (s * s) / (a * b)) × (r.remainder ≡ whole * (s * s) % (a * b))
exact {s} {a} {b} d above most =
    let m : max (a * b) 1 ≡ a * b = omega arith in
    (d.quotient ∙ rw m (min-eq_left most), d.remainder ∙ rw m refl)

module _ (x : Slot) (q : Query) (fs : List ℕ) (lt : q.n ≤ length q.terms) (lf : q.n ≤ length fs) (counts : Counts x.cells q fs) (r : Closeness)
    (d : Divided (weighted_sum q.n q.weights fs) (cell_squares x.cells) (weighted_sum q.n q.weights q.weights) r) where
  module _ (m : Message) (query : Rank.Query) (holds : x ≡ stored m) (v : Pairs count_width most_pairs m.pairs) (t : Terms query) (is : Is q query) where
    cells : x.cells ≡ cells_of m.pairs
    unfolding stored
    cells = ap (λ (y : Slot). y.cells) holds

    counted : ◌≡◌ {A = ℕ → ℕ} (count_among x.cells) (λ t. count_of t m.pairs)
    counted i t = (ap (λ (cs : List ℕ). count_among cs t) cells ∙ count_cells m.pairs v t) i

    shared : weighted_sum q.n q.weights fs ≡ shared_sum query.terms m.pairs
    shared =
        score_found (count_among x.cells) q.n q.terms q.weights fs lt lf counts
        ∙ ap (λ (g : ℕ → ℕ). score_by g (terms_of q)) counted
        ∙ ap (λ (qs : List Pair). shared_sum qs m.pairs) is.terms

    message : cell_squares x.cells ≡ squares m.pairs
    message = ap cell_squares cells ∙ squares_cells m.pairs v

    weights : weighted_sum q.n q.weights q.weights ≡ squares query.terms
    weights = sum_squares q.n q.weights ∙ sym (squares_side q.n q.terms q.weights lt) ∙ ap squares is.terms

    paper_closeness : told_of r ≡ closeness query.terms m.pairs
    unfolding closeness
    paper_closeness =
        let e : Divided (shared_sum query.terms m.pairs) (squares m.pairs) (squares query.terms) r = rw (shared, message, weights) at d in
        let x = exact e (positive_divisor query.terms m.pairs t.terms v) (quotient_most query.terms m.pairs t.terms v) in
        λ i. record { quotient = x.0 i; remainder = x.1 i }

  pub compared : SlotCloseness x q r
  compared = record {
    most = rw d.quotient (min-le_right _ whole);
    right = paper_closeness;
  }
