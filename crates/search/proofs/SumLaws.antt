-- What is above a cut and what is next below it: order and zeros don't matter, a higher cut has no less below it, and a cut of 0 reads everything.
-- Assumes nothing.
use Prim.Native.Nat.{ℕ, zero, suc, ◌+◌, ◌-◌, ◌*◌, ◌/◌, ◌≤◌, ◌<◌, max}
use native.Mathlib.Nat.{le-div_iff_mul-le, div-mul-le_self, le_trans, mul-le-mul_left, mul-zero, zero-div, div-zero, eq-or-lt_of_le}
use native.Mathlib.Omega.{arith}
use mathlib.Core.Path.{◌≡◌, refl, ap, ◌∙◌}
use mathlib.Core.Bool.{Bool}
use mathlib.Core.Logic.{⊎_elim}
use mathlib.Core.List.{List, [], ◌∷◌, ◌++◌, map}
use lib.ListN.{length, get_or, length-append}
use lib.Dec.{leb, ltb}
use borrow.Author.Tests.{leb-true, le-leb, ltb-true, ltb-false, lt-ltb}
use Rattle.paper.specs.Frame.{most_terms}
use Rattle.paper.specs.Sort.{select, insert, inserts, sort}
use Rattle.paper.specs.Order.{In}
use Rattle.paper.specs.Search.{count_in}
use Rattle.paper.proofs.Tests.{by_bool}
use Rattle.paper.proofs.Steps.{sum}
use Rattle.paper.proofs.SortLaws.{select_append, select_all, select_select, count_sort}
use Rattle.search.specs.Cut.{cap, up_to, over, sum_at, read_at}

-- ---- how many are above c

module _ (c : ℕ) where
  -- counting is selecting
  pub over_counts : (l : List ℕ) → over c l ≡ length (select (ltb c) l)
  unfolding over select
  over_counts [] = refl
  over_counts (v ∷ vs) = let ih = over_counts vs in by_bool (ltb c v) (λ e. rw e (omega arith)) (λ e. rw e (omega arith))

  pub over_append : (a b : List ℕ) → over c (a ++ b) ≡ over c a + over c b
  over_append a b =
      rw (over_counts (a ++ b), over_counts a, over_counts b, select_append (ltb c) a b) (length-append (select (ltb c) a) (select (ltb c) b))

  pub over_positive : (l : List ℕ) → over c (select (ltb 0) l) ≡ over c l
  over_positive l =
      rw (over_counts (select (ltb 0) l), over_counts l, select_select (ltb c) (ltb 0) (λ v e. lt-ltb 0 v (omega (arith, ltb-true c v e))) l)

  pub over_sort : (ahead : ℕ → ℕ → Bool) (l : List ℕ) → over c (sort ahead l) ≡ over c l
  over_sort ahead l = rw (over_counts (sort ahead l), over_counts l) (count_sort ahead (ltb c) l)

  -- ---- the greatest that is at most c

  pub up_to_append : (a b : List ℕ) → up_to c (a ++ b) ≡ max (up_to c a) (up_to c b)
  unfolding up_to
  up_to_append [] b = omega arith
  up_to_append (v ∷ a) b = omega (arith, up_to_append a b)

  pub up_to_positive : (l : List ℕ) → up_to c (select (ltb 0) l) ≡ up_to c l
  unfolding up_to select
  up_to_positive [] = refl
  up_to_positive (v ∷ vs) =
      let ih = up_to_positive vs in
      by_bool (ltb 0 v) (λ e. rw (e, ih)) (λ e. let z : v ≡ 0 = omega (arith, ltb-false 0 v e) in rw (e, z, le-leb 0 c (omega arith)) (omega arith))

  pub up_to_most : (l : List ℕ) → up_to c l ≤ c
  unfolding up_to
  up_to_most [] = omega arith
  up_to_most (v ∷ vs) =
      let ih = up_to_most vs in by_bool (leb v c) (λ e. rw e (omega (arith, leb-true v c e))) (λ e. rw e (omega arith))

  module _ (ahead : ℕ → ℕ → Bool) where
    up_to_insert : (e : ℕ) (l : List ℕ) → up_to c (insert ahead e l) ≡ up_to c (e ∷ l)
    unfolding up_to insert
    up_to_insert e [] = refl
    up_to_insert e (x ∷ xs) = let ih = up_to_insert e xs in by_bool (ahead e x) (λ q. rw q) (λ q. rw q (omega arith))

    up_to_inserts : (l es : List ℕ) → up_to c (inserts ahead l es) ≡ max (up_to c l) (up_to c es)
    unfolding up_to inserts
    up_to_inserts l [] = omega arith
    up_to_inserts l (e ∷ es) = omega (arith, up_to_inserts (insert ahead e l) es, up_to_insert e l)

    pub up_to_sort : (l : List ℕ) → up_to c (sort ahead l) ≡ up_to c l
    unfolding up_to
    up_to_sort l = omega (arith, up_to_inserts [] l)

up_to_rises : (c d : ℕ) → c ≤ d → (l : List ℕ) → up_to c l ≤ up_to d l
unfolding up_to
up_to_rises c d h [] = omega arith
up_to_rises c d h (v ∷ vs) =
    let ih = up_to_rises c d h vs in
    by_bool (leb v c) (λ e. rw (e, le-leb v d (omega (arith, leb-true v c e))) (omega arith)) (λ e. rw e (omega arith))

div_rises : (a b w : ℕ) → a ≤ b → a / w ≤ b / w
div_rises a b zero h = rw (div-zero a) (omega arith)
div_rises a b (suc w) h = (le-div_iff_mul-le {k = suc w} (omega arith)).1 (le_trans (div-mul-le_self a (suc w)) h)

-- ---- a sum over the first n places

unfoldable pub total : ℕ → (ℕ → ℕ) → ℕ
total zero f = 0
total (suc p) f = total p f + f p

pub total_agree : (n : ℕ) (f g : ℕ → ℕ) → ((p : ℕ) → p < n → f p ≡ g p) → total n f ≡ total n g
unfolding total
total_agree zero f g h = refl
total_agree (suc n) f g h = omega (arith, total_agree n f g (λ p l. h p (omega arith)), h n (omega arith))

pub total_none : (n : ℕ) (f : ℕ → ℕ) → ((p : ℕ) → p < n → f p ≡ 0) → total n f ≡ 0
unfolding total
total_none zero f h = refl
total_none (suc n) f h = omega (arith, total_none n f (λ p l. h p (omega arith)), h n (omega arith))

-- one place has one more
pub total_less : (n i : ℕ) (f g : ℕ → ℕ) → i < n → f i ≡ suc (g i) → ((q : ℕ) → (q ≡ i → ⊥) → f q ≡ g q) → total n f ≡ suc (total n g)
unfolding total
total_less zero i f g h e o = absurd (omega arith)
total_less (suc n) i f g h e o =
    ⊎_elim
    (λ q. let last : f n ≡ suc (g n) = rw (← q) e in
    omega (arith, last, total_agree n f g (λ p l. o p (λ z. omega arith))))
    (λ l. omega (arith, o n (λ z. omega arith), total_less n i f g l e o))
    (eq-or-lt_of_le {n = i} {m = n} (omega arith))

-- with the first place taken apart
total_first : (n : ℕ) (f : ℕ → ℕ) → total (suc n) f ≡ f 0 + total n (λ p. f (suc p))
unfolding total
total_first zero f = omega arith
total_first (suc n) f = omega (arith, total_first n f)

-- a number of each list, summed by places
pub sum_places : (f : List ℕ → ℕ) (ls : List (List ℕ)) → sum (map f ls) ≡ total (length ls) (λ p. f (get_or ls p []))
unfolding sum total
sum_places f [] = refl
sum_places f (l ∷ ls) = omega (arith, sum_places f ls, total_first (length ls) (λ p. f (get_or (l ∷ ls) p [])))

pub count_places : (ls : List (List ℕ)) → count_in ls ≡ total (length ls) (λ p. length (get_or ls p []))
unfolding count_in sum
count_places ls = lengths ls ∙ sum_places length ls
  where
    lengths : (ls : List (List ℕ)) → count_in ls ≡ sum (map length ls)
    lengths [] = refl
    lengths (l ∷ ls) = rw (lengths ls)

module _ (ws : List ℕ) (impacts : ℕ → List ℕ) (x : ℕ) where
  pub sum_total : (n : ℕ) → sum_at n ws impacts x ≡ total n (λ p. get_or ws p 0 * up_to (cap x p (get_or ws p 0)) (impacts p))
  unfolding sum_at total
  sum_total zero = refl
  sum_total (suc n) = rw (sum_total n)

  pub read_total : (n : ℕ) → read_at n ws impacts x ≡ total n (λ p. over (cap x p (get_or ws p 0)) (impacts p))
  unfolding read_at total
  read_total zero = refl
  read_total (suc n) = rw (read_total n)

-- only the weights and impacts of the first n terms matter
module _ (n : ℕ) (ws vs : List ℕ) (f g : ℕ → List ℕ) (same : (p : ℕ) → p < n → get_or ws p 0 ≡ get_or vs p 0) (x : ℕ) where
  pub sum_agree : ((p : ℕ) → p < n → (c : ℕ) → up_to c (f p) ≡ up_to c (g p)) → sum_at n ws f x ≡ sum_at n vs g x
  sum_agree h =
      rw (sum_total ws f x n, sum_total vs g x n)
      (total_agree n _ _ (λ p l. rw (same p l) (ap (λ (u : ℕ). get_or vs p 0 * u) (h p l (cap x p (get_or vs p 0))))))

  pub read_agree : ((p : ℕ) → p < n → (c : ℕ) → over c (f p) ≡ over c (g p)) → read_at n ws f x ≡ read_at n vs g x
  read_agree h =
      rw (read_total ws f x n, read_total vs g x n) (total_agree n _ _ (λ p l. rw (same p l) (h p l (cap x p (get_or vs p 0)))))

-- without impacts nothing is read
pub read_none : (n : ℕ) (ws : List ℕ) (x : ℕ) → read_at n ws (λ p. []) x ≡ 0
unfolding over
read_none n ws x = rw (read_total ws (λ p. []) x n) (total_none n _ (λ p l. refl))

-- the higher the cut, the greater the sum below it
pub sum_rises : (n : ℕ) (ws : List ℕ) (impacts : ℕ → List ℕ) (x z : ℕ) → x ≤ z → sum_at n ws impacts x ≤ sum_at n ws impacts z
unfolding sum_at
sum_rises zero ws impacts x z h = omega arith
sum_rises (suc p) ws impacts x z h =
    let w = get_or ws p 0 in
    let c : cap x p w ≤ cap z p w = div_rises _ _ w (omega arith) in
    omega (arith, sum_rises p ws impacts x z h, mul-le-mul_left w (up_to_rises (cap x p w) (cap z p w) c (impacts p)))

-- ---- a cut of 0: nothing is next below it, and where no impact is 0, all are above it

cap_none : (p w : ℕ) → cap 0 p w ≡ 0
cap_none p w = let z : (0 - (most_terms - 1 - p)) / most_terms ≡ 0 = omega arith in rw z (zero-div w)

pub sum_none : (n : ℕ) (ws : List ℕ) (impacts : ℕ → List ℕ) → sum_at n ws impacts 0 ≡ 0
unfolding sum_at
sum_none zero ws impacts = refl
sum_none (suc p) ws impacts =
    let u : up_to 0 (impacts p) ≡ 0 = omega (arith, up_to_most 0 (impacts p)) in
    rw (sum_none p ws impacts, cap_none p (get_or ws p 0), u) (omega (arith, mul-zero (get_or ws p 0)))

over_all : (l : List ℕ) → ((v : ℕ) → In v l → 0 < v) → over 0 l ≡ length l
over_all l h = over_counts 0 l ∙ ap length (select_all (ltb 0) l (λ v m. lt-ltb 0 v (h v m)))

pub cut_none : (ws : List ℕ) (ls : List (List ℕ)) → length ls ≡ length ws → ((p v : ℕ) → In v (get_or ls p []) → 0 < v)
    → read_at (length ws) ws (λ p. get_or ls p []) 0 ≡ count_in ls
cut_none ws ls same positive =
    rw (← same, read_total ws (λ p. get_or ls p []) 0 (length ls), count_places ls)
    (total_agree (length ls) _ _ (λ p l. rw (cap_none p (get_or ws p 0)) (over_all (get_or ls p []) (positive p))))
