-- Closeness never exceeds the whole, and is the whole exactly where counts and weights are in proportion. Assumes nothing.
use Prim.Native.Nat.{ℕ, zero, suc, ◌+◌, ◌*◌, ◌^◌, ◌≤◌, ◌<◌}
use native.Mathlib.Nat.{not-suc-le-zero, mul-pos, zero-mul, le_refl, div-le_of_le-mul, div-add-mod, div-eq_of_eq-mul_right, mul-mod_right, zero-div, zero-mod}
use native.Mathlib.Omega.{arith}
use mathlib.Core.Path.{◌≡◌, refl, sym, ap, ◌∙◌}
use mathlib.Core.Logic.{◌↔◌, inl, inr, ⊎_elim}
use mathlib.Core.Bool.{Bool, true, false, cond}
use mathlib.Core.List.{List, [], ◌∷◌}
use lib.ListN.{length}
use lib.Dec.{eqb, ltb}
use borrow.Author.Tests.{ltb-true, eqb-true, eqb-false, ne_eqb}
use Rattle.paper.specs.Frame.{Pair, terms, Pairs, AllFit, term_width, positive, rises}
use Rattle.paper.specs.Impact.{squares, count_of, score_by}
use Rattle.paper.specs.Order.{In}
use Rattle.paper.specs.Closeness.{whole, shared_sum, dividend, divisor, closeness, Proportional}
use Rattle.paper.proofs.Tests.{and_true}
use Rattle.paper.proofs.FrameLaws.{rises_parts}
use Rattle.paper.proofs.Cauchy.{sum, cauchy, alike_equal, equal_alike}

-- ---- a sum over pairs of rising terms is one over all terms

-- terms below the first are lacking
count_before : (t least : ℕ) (ps : List Pair) → rises least ps ≡ true → t < least → count_of t ps ≡ 0
unfolding count_of
count_before t least [] e h = refl
count_before t least (p ∷ ps) e h =
    let s = rises_parts least p ps e in
    rw (ne_eqb p.term t (λ z. omega arith)) (count_before t (suc p.term) ps s.1 (omega arith))

-- of an amount and its term; an amount of 0 adds nothing
module _ (k : ℕ → ℕ → ℕ) (none : (t : ℕ) → k 0 t ≡ 0) where
  -- one term more, c with amount a, which the amounts h lack
  module _ (c a : ℕ) (h : ℕ → ℕ) (lacking : h c ≡ 0) where
    abbrev with_it : ℕ → ℕ
    with_it t = k (cond (eqb c t) a (h t)) t

    abbrev without_it : ℕ → ℕ
    without_it t = k (h t) t

    sum_before : (n : ℕ) → n ≤ c → sum with_it n ≡ sum without_it n
    unfolding sum
    sum_before zero l = refl
    sum_before (suc n) l = rw (ne_eqb c n (λ z. omega arith), sum_before n (omega arith))

    sum_past : (n : ℕ) → c < n → sum with_it n ≡ k a c + sum without_it n
    unfolding sum
    sum_past zero l = absurd (not-suc-le-zero l)
    sum_past (suc n) l = go (eqb c n) refl (sum_past n)
      where
        go : (b : Bool) → eqb c n ≡ b → (c < n → sum with_it n ≡ k a c + sum without_it n)
            → k (cond b a (h n)) n + sum with_it n ≡ k a c + (k (h n) n + sum without_it n)
        go true e ih =
            let z : c ≡ n = eqb-true c n e in
            let gone : k (h n) n ≡ 0 = rw (← z, lacking) (none c) in
            let p : k a n ≡ k a c = ap (k a) (sym z) in
            let b = sum_before n (omega arith) in
            omega arith
        go false e ih = let z = eqb-false c n e in let r = ih (omega arith) in omega arith

  over_pairs : List Pair → ℕ
  over_pairs [] = 0
  over_pairs (p ∷ ps) = k p.amount p.term + over_pairs ps

  sum_none : (n : ℕ) → sum (λ t. k 0 t) n ≡ 0
  unfolding sum
  sum_none zero = refl
  sum_none (suc n) = rw (none n, sum_none n) refl

  over_terms : (w least n : ℕ) (ps : List Pair) → AllFit w ps → rises least ps ≡ true → 2 ^ term_width ≤ n → over_pairs ps ≡ sum (λ t. k (count_of t ps) t) n
  unfolding count_of over_pairs sum
  over_terms w least n [] a e l = sym (sum_none n)
  over_terms w least n (p ∷ ps) a e l =
      let s = rises_parts least p ps e in
      let lacking = count_before p.term (suc p.term) ps s.1 (le_refl (suc p.term)) in
      ap (λ (x : ℕ). k p.amount p.term + x) (over_terms w (suc p.term) n ps a.2 s.1 l)
      ∙ sym (sum_past p.term p.amount (λ t. count_of t ps) lacking n (omega (arith, a.0)))

squares_over : (ps : List Pair) → squares ps ≡ over_pairs (λ a t. a * a) (λ t. refl) ps
unfolding squares over_pairs
squares_over [] = refl
squares_over (p ∷ ps) = ap (λ (x : ℕ). p.amount * p.amount + x) (squares_over ps)

score_over : (g : ℕ → ℕ) (qs : List Pair) → score_by g qs ≡ over_pairs (λ a t. a * g t) (λ t. zero-mul (g t)) qs
unfolding score_by over_pairs
score_over g [] = refl
score_over g (q ∷ qs) = ap (λ (x : ℕ). q.amount * g q.term + x) (score_over g qs)

-- ---- terms and their amounts

squares_positive : (ps : List Pair) → 1 ≤ length ps → positive ps ≡ true → 0 < squares ps
unfolding squares positive
squares_positive [] l e = absurd (omega arith)
squares_positive (p ∷ ps) l e =
    let z = ltb-true 0 p.amount (and_true (ltb 0 p.amount) (positive ps) e).0 in
    let m = mul-pos z z in
    omega arith

-- a term that pairs have has an amount
has_amount : (t : ℕ) (ps : List Pair) → positive ps ≡ true → In t (terms ps) ↔ (0 < count_of t ps)
unfolding positive count_of
has_amount t [] e = (λ i. absurd i, λ h. absurd (not-suc-le-zero h))
has_amount t (p ∷ ps) e = let z = and_true (ltb 0 p.amount) (positive ps) e in go (eqb p.term t) refl z.0 (has_amount t ps z.1)
  where
    go : (b : Bool) → eqb p.term t ≡ b → ltb 0 p.amount ≡ true → In t (terms ps) ↔ (0 < count_of t ps)
        → In t (terms (p ∷ ps)) ↔ (0 < cond b p.amount (count_of t ps))
    go true q a ih = (λ _. ltb-true 0 p.amount a, λ _. inl (sym (eqb-true p.term t q)))
    go false q a ih = (⊎_elim (λ i. absurd (eqb-false p.term t q (sym i))) ih.0, λ h. inr (ih.1 h))

some_amount : (ps : List Pair) → 1 ≤ length ps → positive ps ≡ true → (t : ℕ) × (0 < count_of t ps)
some_amount [] l e = absurd (not-suc-le-zero l)
some_amount (p ∷ ps) l e = (p.term, (has_amount p.term (p ∷ ps) e).0 (inl refl))

-- in proportion to amounts of which one is above 0, each term of the one side is a term of the other
lacks_none : (xs ys : List Pair) → ((t t' : ℕ) → count_of t xs * count_of t' ys ≡ count_of t' xs * count_of t ys) → positive xs ≡ true
    → 1 ≤ length ys → positive ys ≡ true
    → (t : ℕ) → In t (terms xs) → In t (terms ys)
lacks_none xs ys alike ex ly ey t i =
    let o = some_amount ys ly ey in
    (has_amount t ys ey).1 (factor (count_of o.0 xs) (count_of t ys) (rw alike at (mul-pos ((has_amount t xs ex).0 i) o.1)))
  where
    factor : (a b : ℕ) → 0 < a * b → 0 < b
    factor a zero h = absurd (omega arith)
    factor a (suc b) h = omega arith

-- what is shared adds to the sum, and nothing else does
shared_above : (ps qs : List Pair) → positive qs ≡ true → (t : ℕ) → In t (terms qs) → 0 < count_of t ps → 0 < shared_sum qs ps
unfolding positive score_by
shared_above ps [] e t i h = absurd i
shared_above ps (q ∷ qs) e t i h =
    let z = and_true (ltb 0 q.amount) (positive qs) e in
    ⊎_elim (λ here. let m = mul-pos (ltb-true 0 q.amount z.0) (rw here at h) in omega arith)
    (λ later. let ih = shared_above ps qs z.1 t later h in omega arith) i

shared_none : (ps qs : List Pair) → ((t : ℕ) → In t (terms qs) → count_of t ps ≡ 0) → shared_sum qs ps ≡ 0
unfolding score_by
shared_none ps [] f = refl
shared_none ps (q ∷ qs) f = let ih = shared_none ps qs (λ t i. f t (inr i)) in rw (f q.term (inl refl)) (omega arith)

-- ---- closeness

-- for every message and query, of any lengths and widths of amounts
module _ {v w m n : ℕ} (qs ps : List Pair) (q : Pairs w n qs) (p : Pairs v m ps) where
  abbrev s : ℕ
  s = shared_sum qs ps

  abbrev count : ℕ → ℕ
  count t = count_of t ps

  abbrev weight : ℕ → ℕ
  weight t = count_of t qs

  pub positive_divisor : 0 < divisor qs ps
  positive_divisor = mul-pos (squares_positive ps p.least_one p.above_zero) (squares_positive qs q.least_one q.above_zero)

  -- s, a and b as sums over all terms below a bound
  module _ (bound : ℕ) (l : 2 ^ term_width ≤ bound) where
    counts : squares ps ≡ sum (λ t. count t * count t) bound
    counts = squares_over ps ∙ over_terms (λ a t. a * a) (λ t. refl) v 0 bound ps p.fit p.in_order l

    weights : squares qs ≡ sum (λ t. weight t * weight t) bound
    weights = squares_over qs ∙ over_terms (λ a t. a * a) (λ t. refl) w 0 bound qs q.fit q.in_order l

    shared : s ≡ sum (λ t. weight t * count t) bound
    shared = score_over count qs ∙ over_terms (λ a t. a * count t) (λ t. zero-mul (count t)) w 0 bound qs q.fit q.in_order l

  abbrev limit : ℕ
  limit = 2 ^ term_width

  all : limit ≤ limit
  all = le_refl limit

  -- s² ≤ a × b
  pub schwarz : s * s ≤ divisor qs ps
  schwarz = rw (shared limit all, counts limit all, weights limit all) (cauchy count weight limit)

  -- "The quotient is shown never to exceed 1,000"
  pub quotient_most : (closeness qs ps).quotient ≤ whole
  unfolding closeness
  quotient_most = div-le_of_le-mul (divisor qs ps) (omega (arith, schwarz))

  -- it is all of it with nothing left exactly where s² is a × b
  abbrev Whole : Type 0
  Whole = ((closeness qs ps).quotient ≡ whole) × ((closeness qs ps).remainder ≡ 0)

  whole_equal : Whole → divisor qs ps ≤ s * s
  unfolding closeness
  whole_equal e =
      let d = div-add-mod (dividend qs ps) (divisor qs ps) in
      let t : divisor qs ps * whole + 0 ≡ dividend qs ps = rw (e.0, e.1) at d in
      omega arith

  equal_whole : s * s ≡ divisor qs ps → Whole
  unfolding closeness
  equal_whole e =
      let d : dividend qs ps ≡ divisor qs ps * whole = rw e (omega arith) in
      (div-eq_of_eq-mul_right positive_divisor d, rw d (mul-mod_right (divisor qs ps) whole))

  abbrev Alike : Type 0
  Alike = (t t' : ℕ) → count t * weight t' ≡ count t' * weight t

  equal_terms : divisor qs ps ≤ s * s → Alike
  equal_terms e t t' =
      let bound : ℕ = limit + suc t + suc t' in
      let l : limit ≤ bound = omega arith in
      equal_alike count weight bound (rw (shared bound l, counts bound l, weights bound l) at e) t t' (omega arith) (omega arith)

  terms_equal : Alike → s * s ≡ divisor qs ps
  terms_equal alike = rw (shared limit all, counts limit all, weights limit all) (alike_equal count weight limit (λ t t' h h'. alike t t'))

  proportional : Alike → Proportional qs ps
  proportional alike = record {
    same_terms = λ t. (
      lacks_none ps qs alike p.above_zero q.least_one q.above_zero t,
      lacks_none qs ps (λ t t'. omega (arith, alike t' t)) q.above_zero p.least_one p.above_zero t,
    );
    in_proportion = alike;
  }

  -- "and to be 1,000 with remainder 0 exactly when counts and weights are in proportion and neither has a term the other lacks"
  pub whole_exactly : Whole ↔ Proportional qs ps
  whole_exactly = (λ e. proportional (equal_terms (whole_equal e)), λ e. equal_whole (terms_equal e.in_proportion))

  -- it is nothing exactly where no term is shared
  pub nothing_exactly : (((closeness qs ps).quotient ≡ 0) × ((closeness qs ps).remainder ≡ 0)) ↔ ((t : ℕ) → In t (terms ps) → In t (terms qs) → ⊥)
  unfolding closeness
  nothing_exactly = (
    λ e t i j.
        let d = div-add-mod (dividend qs ps) (divisor qs ps) in
        let z : divisor qs ps * 0 + 0 ≡ dividend qs ps = rw (e.0, e.1) at d in
        let above = shared_above ps qs q.above_zero t j ((has_amount t ps p.above_zero).0 i) in
        let product = mul-pos above above in
        omega arith,
    λ apart.
        let none : s ≡ 0 = shared_none ps qs (λ t j. lacking (count t) (λ h. apart t ((has_amount t ps p.above_zero).1 h) j)) in
        rw none (zero-div (divisor qs ps), zero-mod (divisor qs ps)),
  )
    where
      lacking : (n : ℕ) → (0 < n → ⊥) → n ≡ 0
      lacking zero f = refl
      lacking (suc n) f = absurd (f (omega arith))
