-- What is read of a record: its query and its thresholds. Assumes nothing.
use Prim.Native.Nat.{ℕ, zero, suc, ◌+◌, ◌-◌, ◌*◌, ◌/◌, ◌%◌, ◌≤◌, ◌<◌, min, max}
use native.Mathlib.Nat.{not-suc-le-zero}
use native.Mathlib.Omega.{arith}
use mathlib.Core.Path.{◌≡◌, refl, sym, ap, ◌∙◌}
use mathlib.Core.Bool.{Bool, true, false}
use mathlib.Core.List.{List, [], ◌∷◌}
use lib.ListN.{length, get_or, take, drop, length-take, length-drop, get_or-eq_default}
use lib.Seq.{get_or-take, get_or-drop, ext_get_or}
use lib.Dec.{ltb}
use borrow.Author.Tests.{ltb-true, ltb-false}
use Rattle.paper.specs.Frame.{Pair, AllFit, weight_width, most_terms, positive, most_listed}
use Rattle.paper.specs.Impact.{top}
use Rattle.paper.specs.Rank as Rank
use Rattle.paper.specs.Sound.{Terms}
use Rattle.paper.specs.Threshold.{term_at, weight_at}
use Rattle.paper.specs.Write.{side_by_side}
use Rattle.paper.specs.Layout.{record_at, pairs_in, thresholds_in}
use Rattle.paper.proofs.Tests.{and_true}
use Rattle.impact.proofs.CellLaws.{rising_side}
use Rattle.rank.specs.Weights.{weight_limit}
use Rattle.candidates.specs.declared.Query.{Query}
use Rattle.candidates.specs.Post.{terms_of}
use Rattle.candidates.proofs.TermLaws.{side_at}
use Rattle.query.specs.Record.{size_of, Says}
use Rattle.query.specs.Post.{InRange, Is, LoadedQuery, LoadedThresholds}
use Rattle.query.proofs.FillLaws.{Filled}

-- one word of a part of the memory
pub part_at : (w : List ℕ) (a i : ℕ) → i < 8 → get_or (take 8 (drop a w)) i 0 ≡ get_or w (a + i) 0
part_at w a i h = get_or-take 8 (drop a w) i 0 h ∙ get_or-drop a w i 0

-- ---- a query's pairs

-- a pair's word gives its term, and its weight
abbrev pub Term : ℕ → ℕ → Type 0
Term pair t = t ≡ pair / weight_limit

abbrev pub Weight : ℕ → ℕ → Type 0
Weight pair u = u ≡ max 1 (min (pair % weight_limit) (weight_limit - 1))

pub weight_range : (qs : List Pair) → AllFit weight_width qs → positive qs ≡ true → (i : ℕ) → i < length qs
    → (1 ≤ weight_at qs i) × (weight_at qs i < weight_limit)
unfolding positive weight_at
weight_range [] a e i h = absurd (not-suc-le-zero h)
weight_range (q ∷ qs) a e zero h = (ltb-true 0 q.amount (and_true (ltb 0 q.amount) (positive qs) e).0, a.1)
weight_range (q ∷ qs) a e (suc i) h = weight_range qs a.2 (and_true (ltb 0 q.amount) (positive qs) e).1 i (omega arith)

pub term_range : (qs : List Pair) → AllFit weight_width qs → (i : ℕ) → i < length qs → term_at qs i < 1024
unfolding term_at
term_range [] a i h = absurd (not-suc-le-zero h)
term_range (q ∷ qs) a zero h = a.0
term_range (q ∷ qs) a (suc i) h = term_range qs a.2 i (omega arith)

-- two arrays that start with these terms and weights
side_is : (qs : List Pair) (ts us : List ℕ) → length qs ≤ length ts → length qs ≤ length us
    → ((i : ℕ) → i < length qs → (get_or ts i 0 ≡ term_at qs i) × (get_or us i 0 ≡ weight_at qs i)) → side_by_side (length qs) ts us ≡ qs
unfolding side_by_side term_at weight_at
side_is [] ts us h k e = refl
side_is (q ∷ qs) [] us h k e = absurd (not-suc-le-zero h)
side_is (q ∷ qs) (t ∷ ts) [] h k e = absurd (not-suc-le-zero k)
side_is (q ∷ qs) (t ∷ ts) (u ∷ us) h k e =
    let first = e 0 (omega arith) in
    let rest = side_is qs ts us (omega arith) (omega arith) (λ i l. e (suc i) (omega arith)) in
    rw (first.0, first.1, rest) refl

-- arrays that hold a query's terms and weights
pub is_by : {r : Query} {query : Rank.Query} → Terms query → r.k ≡ query.k → r.n ≡ length query.terms → r.n ≤ length r.terms → r.n ≤ length r.weights
    → terms_of r ≡ query.terms → Is r query
is_by {r} {query} v k n ht hu pairs = record {
  k = k;
  n = n;
  terms = pairs;
  rising = rising_side {w = weight_width} {most = most_terms} r.n r.terms r.weights ht hu (rw pairs v.terms);
  known = λ i h.
      let s = side_at r.n r.terms r.weights i (omega (arith, ap length pairs)) in
      omega (arith, s.1, ap (λ (qs : List Pair). term_at qs i) pairs, term_range query.terms v.terms.fit i (omega arith));
}

-- a pair's word is taken apart again
apart : {p t u : ℕ} → u < weight_limit → p ≡ t * weight_limit + u → (p / weight_limit ≡ t) × (p % weight_limit ≡ u)
apart h e = (omega arith, omega arith)

module _ (w : List ℕ) (q : ℕ) (r : Query) (k : r.k ≡ min (get_or w (record_at q) 0) most_listed) (n : r.n ≡ size_of w q)
    (ts : Filled Term 8 (take 8 (drop (pairs_in q) w)) r.terms) (us : Filled Weight 8 (take 8 (drop (pairs_in q) w)) r.weights) where
  in_range : InRange r
  in_range = record {
    k_most = omega arith;
    n_least = omega arith;
    n_most = omega arith;
    weights_least = λ i h. omega (arith, us.each i h);
    weights_most = λ i h. omega (arith, us.each i h);
  }

  module _ (query : Rank.Query) (v : Terms query) (says : Says w q query) where
    pair_is : (i : ℕ) → i < length query.terms → (get_or r.terms i 0 ≡ term_at query.terms i) × (get_or r.weights i 0 ≡ weight_at query.terms i)
    pair_is i h =
        let most = v.terms.at_most in
        let l : i < 8 = omega arith in
        let range = weight_range query.terms v.terms.fit v.terms.above_zero i h in
        let e = apart range.1 (part_at w (pairs_in q) i l ∙ says.pairs i l) in
        (ts.each i l ∙ e.0, omega (arith, us.each i l))

    is_query : Is r query
    is_query =
        let least = v.terms.least_one in
        let most = v.terms.at_most in
        let e : r.n ≡ length query.terms = omega (arith, says.size) in
        is_by v (omega (arith, says.k, v.k_most)) e (omega (arith, ts.wide)) (omega (arith, us.wide))
        (rw e (side_is query.terms r.terms r.weights (omega (arith, ts.wide)) (omega (arith, us.wide)) pair_is))

  pub loaded_query : LoadedQuery w q r
  loaded_query = record { in_range = in_range; is = is_query }

-- ---- thresholds

abbrev pub Threshold : ℕ → ℕ → Type 0
Threshold v h = h ≡ min v top

pub loaded_thresholds : (w : List ℕ) (q : ℕ) {hs : List ℕ} → thresholds_in q + 8 ≤ length w → Filled Threshold 8 (take 8 (drop (thresholds_in q) w)) hs
    → LoadedThresholds w q hs
loaded_thresholds w q {hs} h f = record { in_scale = in_scale; is = is }
  where
    in_scale : (i : ℕ) → get_or hs i 0 ≤ top
    in_scale i = go (ltb i 8) refl
      where
        go : (b : Bool) → ltb i 8 ≡ b → get_or hs i 0 ≤ top
        go true e = omega (arith, f.each i (ltb-true i 8 e))
        go false e = rw (get_or-eq_default hs 0 {n = i} (omega (arith, ltb-false i 8 e, f.wide))) (omega arith)

    is : ((i : ℕ) → i < 8 → get_or w (thresholds_in q + i) 0 ≤ top) → hs ≡ take 8 (drop (thresholds_in q) w)
    is low =
        ext_get_or 0 hs (take 8 (drop (thresholds_in q) w)) (f.wide ∙ sym (simp (length-take, length-drop) (omega arith)))
        (λ i l. let b : i < 8 = omega (arith, f.wide) in omega (arith, f.each i b, part_at w (thresholds_in q) i b, low i b))

-- ---- what a record says, word by word

module _ {w : List ℕ} {q : ℕ} {query : Rank.Query} (terms : Terms query) (says : Says w q query) where
  pub size_said : size_of w q ≡ length query.terms
  size_said = omega (arith, says.size, terms.terms.least_one, terms.terms.at_most)

  pub term_said : (i : ℕ) → i < length query.terms → get_or w (pairs_in q + i) 0 / 16 % 1024 ≡ term_at query.terms i
  term_said i h =
      let u = weight_range query.terms terms.terms.fit terms.terms.above_zero i h in
      let t = term_range query.terms terms.terms.fit i h in
      omega (arith, says.pairs i (omega (arith, terms.terms.at_most)))

  pub weight_said : (i : ℕ) → i < length query.terms → get_or w (pairs_in q + i) 0 % 16 ≡ weight_at query.terms i
  weight_said i h =
      let u = weight_range query.terms terms.terms.fit terms.terms.above_zero i h in
      omega (arith, says.pairs i (omega (arith, terms.terms.at_most)))
