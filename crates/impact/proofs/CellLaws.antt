-- Laws of cells: a cell gives its parts back, and a message's cells its pairs, its impacts and their rising terms; and the sum of squares.
-- Assumes nothing.
use Prim.Native.Nat.{ℕ, zero, suc, ◌+◌, ◌*◌, ◌^◌, ◌≤◌, ◌<◌}
use native.Mathlib.Nat.{not-suc-le-zero}
use native.Mathlib.Numerals.{add-one}
use native.Mathlib.Omega.{arith}
use mathlib.Core.Path.{◌≡◌, refl, sym, ap, ap₂, ◌∙◌}
use mathlib.Core.Bool.{Bool, true, false, cond}
use mathlib.Core.List.{List, [], ◌∷◌, map}
use lib.ListN.{length, get_or, take, drop, length-map, drop_of_length-le, get_or-map}
use lib.Seq.{get_or-take, drop-cons}
use lib.Dec.{eqb, ltb}
use borrow.Author.Tests.{ltb-true, eq-eqb, ne_eqb}
use Rattle.paper.specs.Frame.{Pair, terms, Pairs, AllFit, term_width, count_width, most_pairs, positive, rises}
use Rattle.paper.specs.Impact.{impact, squares, count_of, impact_in}
use Rattle.paper.specs.Write.{side_by_side}
use Rattle.paper.proofs.Tests.{and_true}
use Rattle.paper.proofs.FrameLaws.{rises_parts}
use Rattle.paper.proofs.ImpactLaws.{impact_most}
use Rattle.paper.proofs.WriteLaws.{length_side}
use Rattle.impact.specs.Cell.{
  impact_width,
  packed,
  cell_term,
  cell_impact,
  cell_count,
  cell_of,
  cells_of,
  squares_of,
  cell_squares,
  cell_with,
  lookup,
  RisingCells,
  RisingTerms,
}

-- ---- a cell and its parts

module _ {t f v : ℕ} (term : t < 2 ^ term_width) (count : f < 2 ^ count_width) (small : v < 2 ^ impact_width) where
  pub packed_term : cell_term (packed t f v) ≡ t
  packed_term = omega arith

  pub packed_impact : cell_impact (packed t f v) ≡ v
  packed_impact = omega arith

  packed_count : cell_count (packed t f v) ≡ f
  packed_count = omega arith

-- ---- the cells of a message

-- an impact has fourteen bits
impact_small : (f n : ℕ) → impact f n < 2 ^ impact_width
impact_small f n = let h = impact_most f n in omega arith

pub length_cells : (ps : List Pair) → length (cells_of ps) ≡ length ps
unfolding cells_of
length_cells ps = length-map ps (cell_of (squares ps))

-- by recursion on the pairs, whatever their squares sum to
module _ (n : ℕ) where
  lookup_in : (t : ℕ) (ps : List Pair) → AllFit count_width ps → positive ps ≡ true
      → lookup t (map (cell_of n) ps) ≡ cond (eqb (count_of t ps) 0) 0 (impact (count_of t ps) n)
  unfolding lookup count_of positive
  lookup_in t [] a e = refl
  lookup_in t (p ∷ ps) a e =
      let s = impact_small p.amount n in
      let z = and_true (ltb 0 p.amount) (positive ps) e in
      rw (packed_term a.0 a.1 s, packed_impact a.0 a.1 s) (go (eqb p.term t) (ltb-true 0 p.amount z.0) (lookup_in t ps a.2 z.1))
    where
      go : (b : Bool) → 0 < p.amount → lookup t (map (cell_of n) ps) ≡ cond (eqb (count_of t ps) 0) 0 (impact (count_of t ps) n)
          → cond b (impact p.amount n) (lookup t (map (cell_of n) ps)) ≡ cond (eqb (cond b p.amount (count_of t ps)) 0) 0
          (impact (cond b p.amount (count_of t ps)) n)
      go true h ih = rw (ne_eqb p.amount 0 (λ z. omega arith))
      go false h ih = ih

  count_in_lem : (t : ℕ) (ps : List Pair) → AllFit count_width ps → cell_count (cell_with t (map (cell_of n) ps)) ≡ count_of t ps
  unfolding cell_with count_of
  count_in_lem t [] a = refl
  count_in_lem t (p ∷ ps) a =
      let s = impact_small p.amount n in
      rw (packed_term a.0 a.1 s) (go (eqb p.term t) (packed_count a.0 a.1 s) (count_in_lem t ps a.2))
    where
      go : (b : Bool) → cell_count (cell_of n p) ≡ p.amount → cell_count (cell_with t (map (cell_of n) ps)) ≡ count_of t ps
          → cell_count (cond b (cell_of n p) (cell_with t (map (cell_of n) ps))) ≡ cond b p.amount (count_of t ps)
      go true here ih = here
      go false here ih = ih

  squares_in : (ps : List Pair) → AllFit count_width ps → cell_squares (map (cell_of n) ps) ≡ squares ps
  unfolding squares_of squares
  squares_in [] a = refl
  squares_in (p ∷ ps) a =
      rw (packed_count a.0 a.1 (impact_small p.amount n)) (ap (λ (x : ℕ). p.amount * p.amount + x) (squares_in ps a.2))

  terms_in : (ps : List Pair) → AllFit count_width ps → map cell_term (map (cell_of n) ps) ≡ terms ps
  terms_in [] a = refl
  terms_in (p ∷ ps) a = ap₂ ◌∷◌ (packed_term a.0 a.1 (impact_small p.amount n)) (terms_in ps a.2)

-- ---- rising terms

rises_from : (least : ℕ) (ps : List Pair) → rises least ps ≡ true → (j : ℕ) → j < length ps → least ≤ get_or (terms ps) j 0
rises_from least [] e j h = absurd (not-suc-le-zero h)
rises_from least (p ∷ ps) e zero h = (rises_parts least p ps e).0
rises_from least (p ∷ ps) e (suc j) h =
    let s = rises_parts least p ps e in
    let r = rises_from (suc p.term) ps s.1 j (omega arith) in
    omega arith

rises_at : (least : ℕ) (ps : List Pair) → rises least ps ≡ true → RisingTerms (length ps) (terms ps)
rises_at least [] e i j h k = absurd (not-suc-le-zero k)
rises_at least (p ∷ ps) e i zero h k = absurd (not-suc-le-zero h)
rises_at least (p ∷ ps) e zero (suc j) h k = rises_from (suc p.term) ps (rises_parts least p ps e).1 j (omega arith)
rises_at least (p ∷ ps) e (suc i) (suc j) h k = rises_at (suc p.term) ps (rises_parts least p ps e).1 i j (omega arith) (omega arith)

module _ (ps : List Pair) (v : Pairs count_width most_pairs ps) where
  pub lookup_cells : (t : ℕ) → lookup t (cells_of ps) ≡ impact_in ps t
  unfolding cells_of impact_in
  lookup_cells t = lookup_in (squares ps) t ps v.fit v.above_zero

  pub count_cells : (t : ℕ) → cell_count (cell_with t (cells_of ps)) ≡ count_of t ps
  unfolding cells_of
  count_cells t = count_in_lem (squares ps) t ps v.fit

  pub squares_cells : cell_squares (cells_of ps) ≡ squares ps
  unfolding cells_of
  squares_cells = squares_in (squares ps) ps v.fit

  term_at_lem : (i : ℕ) → cell_term (get_or (cells_of ps) i 0) ≡ get_or (terms ps) i 0
  unfolding cells_of
  term_at_lem i = sym (get_or-map cell_term (cells_of ps) i 0) ∙ ap (λ (ts : List ℕ). get_or ts i 0) (terms_in (squares ps) ps v.fit)

  pub rising_cells : RisingCells (cells_of ps)
  rising_cells i j h k = rw (term_at_lem i, term_at_lem j) (rises_at 0 ps v.in_order i j h (rw length_cells at k))

-- ---- a term looked up cell by cell

module _ (t i : ℕ) (cs : List ℕ) where
  pub with_here : i < length cs → cell_term (get_or cs i 0) ≡ t → cell_with t (drop i cs) ≡ get_or cs i 0
  unfolding cell_with
  with_here h e = rw (drop-cons cs i 0 h, eq-eqb _ _ e)

  pub with_next : i < length cs → (cell_term (get_or cs i 0) ≡ t → ⊥) → cell_with t (drop (i + 1) cs) ≡ cell_with t (drop i cs)
  unfolding cell_with
  with_next h e = rw (add-one, drop-cons cs i 0 h, ne_eqb _ _ e)

  pub with_end : length cs ≤ i → cell_with t (drop i cs) ≡ 0
  unfolding cell_with
  with_end h = rw (drop_of_length-le cs h)

-- its impact
pub with_impact : (t : ℕ) (cs : List ℕ) → cell_impact (cell_with t cs) ≡ lookup t cs
unfolding cell_with lookup
with_impact t [] = refl
with_impact t (c ∷ cs) = go (eqb (cell_term c) t) (with_impact t cs)
  where
    go : (b : Bool) → cell_impact (cell_with t cs) ≡ lookup t cs → cell_impact (cond b c (cell_with t cs)) ≡ cond b (cell_impact c) (lookup t cs)
    go true ih = refl
    go false ih = ih

-- ---- a query's terms, as a list or an array that starts with them

pub rising_terms : {w most : ℕ} (qs : List Pair) (ts : List ℕ) → Pairs w most qs → take (length qs) ts ≡ map (λ q. q.term) qs → RisingTerms (length qs) ts
rising_terms qs ts v e i j h k = rw (at i (omega arith), at j k) (rises_at 0 qs v.in_order i j h k)
  where
    at : (x : ℕ) → x < length qs → get_or ts x 0 ≡ get_or (terms qs) x 0
    at x l = sym (get_or-take (length qs) ts x 0 l) ∙ ap (λ (us : List ℕ). get_or us x 0) e

terms_side : (n : ℕ) (ts us : List ℕ) → n ≤ length us → terms (side_by_side n ts us) ≡ take n ts
unfolding side_by_side
terms_side zero ts us h = refl
terms_side (suc n) [] us h = refl
terms_side (suc n) (t ∷ ts) [] h = absurd (not-suc-le-zero h)
terms_side (suc n) (t ∷ ts) (u ∷ us) h = ap (λ (l : List ℕ). t ∷ l) (terms_side n ts us (omega arith))

pub rising_side : {w most : ℕ} (n : ℕ) (ts us : List ℕ) → n ≤ length ts → n ≤ length us → Pairs w most (side_by_side n ts us) → RisingTerms n ts
rising_side n ts us h k v =
    let e = terms_side n ts us k in
    let l : length (side_by_side n ts us) ≡ n = length_side n ts us h k in
    rw l at (rising_terms (side_by_side n ts us) ts v (rw l (sym e)))

-- ---- the sum of squares

pub squares_side : (m : ℕ) (ts fs : List ℕ) → m ≤ length ts → squares (side_by_side m ts fs) ≡ squares_of m fs
unfolding side_by_side squares squares_of
squares_side zero ts fs h = refl
squares_side (suc m) [] fs h = absurd (not-suc-le-zero h)
squares_side (suc m) (t ∷ ts) [] h = refl
squares_side (suc m) (t ∷ ts) (f ∷ fs) h = ap (λ (n : ℕ). f * f + n) (squares_side m ts fs (omega arith))

-- one more at the end
pub squares_more : (i : ℕ) (fs : List ℕ) → squares_of (i + 1) fs ≡ squares_of i fs + get_or fs i 0 * get_or fs i 0
unfolding squares_of
squares_more zero [] = refl
squares_more zero (f ∷ fs) = omega arith
squares_more (suc i) [] = rw add-one refl
squares_more (suc i) (f ∷ fs) = let ih = rw add-one at (squares_more i fs) in rw add-one (omega arith)
