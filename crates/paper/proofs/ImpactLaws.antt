-- The impact is the greatest number that meets the rule; it is at most the top, and above 0 for each term that a message has.
-- Assumes nothing.
use Prim.Native.Nat.{ℕ, zero, suc, ◌+◌, ◌*◌, ◌≤◌, ◌<◌}
use native.Mathlib.Nat.{
  zero-mul,
  le_refl,
  le_trans,
  lt_of_lt_of_le,
  mul-le-mul,
  mul-le-mul_left,
  mul-lt-mul_of_pos_right,
  mul-mul-mul_comm,
  not-le_of_lt,
  le_of_lt,
  not-suc-le-zero,
  mul-pos,
}
use native.Mathlib.Omega.{arith}
use mathlib.Core.Path.{◌≡◌, refl, sym, ap, ◌∙◌}
use mathlib.Core.Logic.{◌↔◌}
use mathlib.Core.Bool.{Bool, true, false, cond, true≢false}
use mathlib.Core.List.{List, [], ◌∷◌}
use lib.ListN.{length}
use lib.Dec.{eqb, leb}
use borrow.Author.Tests.{leb-true, leb-false, le-leb, eqb-false, ne_eqb}
use Rattle.paper.specs.Frame.{Pair, AllFit, count_width, most_pairs}
use Rattle.paper.specs.Impact.{top, meets, greatest, impact, squares, count_of, impact_in}

-- ---- the greatest number that passes a test

module _ (test : ℕ → Bool) where
  greatest_most : (w : ℕ) → greatest test w ≤ w
  unfolding greatest
  greatest_most zero = le_refl 0
  greatest_most (suc w) = go (test (suc w)) (greatest_most w)
    where
      go : (b : Bool) → greatest test w ≤ w → cond b (suc w) (greatest test w) ≤ suc w
      go true h = le_refl (suc w)
      go false h = omega arith

  greatest_passes : test 0 ≡ true → (w : ℕ) → test (greatest test w) ≡ true
  unfolding greatest
  greatest_passes z zero = z
  greatest_passes z (suc w) = go (test (suc w)) refl (greatest_passes z w)
    where
      go : (b : Bool) → test (suc w) ≡ b → test (greatest test w) ≡ true → test (cond b (suc w) (greatest test w)) ≡ true
      go true e ih = e
      go false e ih = ih

  none_greater : (w v : ℕ) → v ≤ w → test v ≡ true → v ≤ greatest test w
  unfolding greatest
  none_greater zero v h e = h
  none_greater (suc w) v h e = go (test (suc w)) refl (none_greater w v)
    where
      go : (b : Bool) → test (suc w) ≡ b → (v ≤ w → test v ≡ true → v ≤ greatest test w) → v ≤ cond b (suc w) (greatest test w)
      go true q ih = h
      go false q ih = below (leb v w) refl
        where
          below : (c : Bool) → leb v w ≡ c → v ≤ greatest test w
          below true l = ih (leb-true v w l) e
          below false l =
              let same : v ≡ suc w = let k = leb-false v w l in omega arith in
              absurd (true≢false (sym e ∙ ap test same ∙ q))

-- ---- the impact of a count f in a message whose counts squared sum to n

pub impact_most : (f n : ℕ) → impact f n ≤ top
unfolding impact
impact_most f n = greatest_most (meets f n) top

pub impact_meets : (f n : ℕ) → impact f n * impact f n * n ≤ (top * f) * (top * f)
unfolding impact
impact_meets f n =
    leb-true (impact f n * impact f n * n) ((top * f) * (top * f))
    (greatest_passes (meets f n) (le-leb (0 * 0 * n) ((top * f) * (top * f)) (rw zero-mul (omega arith))) top)

-- a number that meets the rule is at most the top
below_top : (f n v : ℕ) → 0 < f → f * f ≤ n → v * v * n ≤ (top * f) * (top * f) → v ≤ top
below_top f n v p h m = go (leb v top) refl
  where
    go : (b : Bool) → leb v top ≡ b → v ≤ top
    go true e = leb-true v top e
    go false e =
        let l : top < v = leb-false v top e in
        let q : (top * f) * (top * f) ≤ top * top * n = rw (mul-mul-mul_comm top f top f) (mul-le-mul_left (top * top) h) in
        let s : top * top < v * v = lt_of_lt_of_le (mul-lt-mul_of_pos_right l (omega arith)) (mul-le-mul_left v (le_of_lt l)) in
        let r : top * top * n < v * v * n = mul-lt-mul_of_pos_right s (lt_of_lt_of_le (mul-pos p p) h) in
        absurd (not-le_of_lt r (le_trans m q))

pub impact_from : (f n v : ℕ) → v ≤ top → v * v * n ≤ (top * f) * (top * f) → v ≤ impact f n
unfolding impact
impact_from f n v h m = none_greater (meets f n) top v h (le-leb (v * v * n) ((top * f) * (top * f)) m)

pub impact_greatest : (f n v : ℕ) → 0 < f → f * f ≤ n → v * v * n ≤ (top * f) * (top * f) → v ≤ impact f n
impact_greatest f n v p h m = impact_from f n v (below_top f n v p h m) m

-- ---- a term that a message has

-- its count squared is part of the sum
pub count_in_squares : (t : ℕ) (ps : List Pair) → count_of t ps * count_of t ps ≤ squares ps
unfolding count_of squares
count_in_squares t [] = le_refl 0
count_in_squares t (p ∷ ps) = go (eqb p.term t) (count_in_squares t ps)
  where
    go : (b : Bool) → count_of t ps * count_of t ps ≤ squares ps
        → cond b p.amount (count_of t ps) * cond b p.amount (count_of t ps) ≤ p.amount * p.amount + squares ps
    go true ih = omega arith
    go false ih = omega arith

-- no count is above 255
abbrev most : ℕ
most = 255 * 255

pub square_most : (a : ℕ) → a < 256 → a * a ≤ most
square_most a h = mul-le-mul {n₂ = 255} {m₂ = 255} (omega arith) (omega arith)

squares_most : (ps : List Pair) → AllFit count_width ps → squares ps ≤ length ps * most
unfolding squares
squares_most [] a = le_refl 0
squares_most (p ∷ ps) a = let h = square_most p.amount a.1 in let ih = squares_most ps a.2 in omega arith

-- the others' counts are at most 255 each
others_most : (t : ℕ) (ps : List Pair) → AllFit count_width ps → 0 < count_of t ps → squares ps + most ≤ count_of t ps * count_of t ps + length ps * most
unfolding squares count_of
others_most t [] a h = absurd (not-suc-le-zero h)
others_most t (p ∷ ps) a h = go (eqb p.term t) h (others_most t ps a.2)
  where
    go : (b : Bool) → 0 < cond b p.amount (count_of t ps)
        → (0 < count_of t ps → squares ps + most ≤ count_of t ps * count_of t ps + length ps * most)
        → p.amount * p.amount + squares ps + most
        ≤ cond b p.amount (count_of t ps) * cond b p.amount (count_of t ps) + suc (length ps) * most
    go true k ih = let r = squares_most ps a.2 in omega arith
    go false k ih = let r = ih k in let s = square_most p.amount a.1 in omega arith

-- "no present term does" have impact 0
pub present_above_zero : (t : ℕ) (ps : List Pair) → AllFit count_width ps → length ps ≤ most_pairs → 0 < count_of t ps → 0 < impact_in ps t
unfolding impact_in
present_above_zero t ps a l h =
    let f : ℕ = count_of t ps in
    let n : ℕ = squares ps in
    let one : 1 ≤ f * f = mul-pos h h in
    let o = others_most t ps a h in
    let m : 1 * 1 * n ≤ (top * f) * (top * f) = rw (mul-mul-mul_comm top f top f) (omega arith) in
    rw (ne_eqb f 0 (λ e. omega arith)) (impact_greatest f n 1 h (count_in_squares t ps) m)

-- a message has a term exactly where its impact is above 0
pub present_exactly : (t : ℕ) (ps : List Pair) → AllFit count_width ps → length ps ≤ most_pairs → (0 < impact_in ps t) ↔ (0 < count_of t ps)
unfolding impact_in
present_exactly t ps a l = (go (eqb (count_of t ps) 0) refl, present_above_zero t ps a l)
  where
    go : (b : Bool) → eqb (count_of t ps) 0 ≡ b → 0 < cond b 0 (impact (count_of t ps) (squares ps)) → 0 < count_of t ps
    go true e h = absurd (omega arith)
    go false e h = let n = eqb-false (count_of t ps) 0 e in omega arith
