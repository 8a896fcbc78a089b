-- A message's cells put into a row, from the last to the first. Assumes nothing.
use Prim.Native.Nat.{ℕ, suc, ◌+◌, ◌-◌, ◌≤◌, ◌<◌}
use native.Mathlib.Numerals.{add-one}
use native.Mathlib.Omega.{arith}
use mathlib.Core.Path.{◌≡◌, refl, ap₂, ◌∙◌}
use mathlib.Core.Bool.{◌||◌, or-false}
use mathlib.Core.List.{List, ◌∷◌}
use lib.ListN.{length, get_or, set, drop, length-set, drop_of_length-le}
use lib.Seq.{get_or-set_other, drop-cons}
use lib.Dec.{ltb}
use Rattle.std.proofs.lemmas.Grind.{common_steps}
use Rattle.std.proofs.lemmas.Bool.Decides.{nat_tests}
use Rattle.paper.specs.Frame.{most_terms}
use Rattle.impact.specs.Cell.{cell_term, cell_impact}
use Rattle.window.specs.Rows.{row_width, found, touches, LookedAt}

pub looked_none : (places : List ℕ) (at : ℕ) (rows cs : List ℕ) (i : ℕ) → length cs ≤ i → LookedAt (drop i cs) places at rows rows
unfolding found
looked_none places at rows cs i h = rw (drop_of_length-le cs h) (record {
  long = refl;
  is = λ p l. refl;
  before = λ k l. refl;
  after = λ k l. refl;
  narrow = λ n. n;
})

-- one cell more, before those that were put
looked_cons : (c : ℕ) (cs places : List ℕ) (at : ℕ) (rows rows' : List ℕ) → at + row_width ≤ length rows → get_or places (cell_term c) 0 ≤ most_terms
    → LookedAt cs places at rows rows'
    → LookedAt (c ∷ cs) places at rows (set rows' (at + get_or places (cell_term c) 0) (cell_impact c))
unfolding found
looked_cons c cs places at rows rows' fits low l = record {
  long = length-set rows' (at + q) x ∙ l.long;
  is = λ p h. let e = l.is p h in let long = l.long in grind (arith, common_steps, nat_tests);
  before = λ k h. get_or-set_other rows' (at + q) k x 0 (λ e. omega arith) ∙ l.before k h;
  after = λ k h. get_or-set_other rows' (at + q) k x 0 (λ e. omega arith) ∙ l.after k h;
  narrow = λ n k. let few = l.narrow n k in let long = l.long in grind (arith, common_steps);
}
  where
    q : ℕ
    q = get_or places (cell_term c) 0

    x : ℕ
    x = cell_impact c

pub looked_more : (cs places : List ℕ) (at : ℕ) (rows rows' : List ℕ) (i c : ℕ) → at + row_width ≤ length rows → get_or places (cell_term c) 0 ≤ most_terms
    → 0 < i → i ≤ length cs → get_or cs (i - 1) 0 ≡ c → LookedAt (drop i cs) places at rows rows'
    → LookedAt (drop (i - 1) cs) places at rows (set rows' (at + get_or places (cell_term c) 0) (cell_impact c))
looked_more cs places at rows rows' i c fits low some most e l =
    let n : suc (i - 1) ≡ i = omega arith in
    let d : drop (i - 1) cs ≡ c ∷ drop i cs = drop-cons cs (i - 1) 0 (omega arith) ∙ ap₂ (λ (y k : ℕ). y ∷ drop k cs) e n in
    rw d (looked_cons c (drop i cs) places at rows rows' fits low l)

-- whether a cell has a place, by the sum of the places so far
module _ (places cs : List ℕ) (i s : ℕ) where
  pub touches_more : (c : ℕ) → i < length cs → get_or cs i 0 ≡ c
      → (ltb 0 (s + get_or places (cell_term c) 0) || touches places (drop (i + 1) cs)) ≡ (ltb 0 s || touches places (drop i cs))
  unfolding touches
  touches_more c h e = rw (drop-cons cs i 0 h, e, add-one) (grind (arith, nat_tests))

  pub touches_end : length cs ≤ i → ltb 0 s ≡ (ltb 0 s || touches places (drop i cs))
  unfolding touches
  touches_end h = rw (drop_of_length-le cs h, or-false)
