-- The steps of a search end at a cut: they read what is above it, where the sum of what is next falls below the score exactly there.
-- Assumes nothing.
use Prim.Native.Nat.{ℕ, zero, suc, ◌+◌, ◌-◌, ◌*◌, ◌/◌, ◌≤◌, ◌<◌, max}
use native.Mathlib.Nat.{le-div_iff_mul-le, div-lt_iff_lt-mul, mul-le-mul_left, mul_comm, mul-pos, zero-max, max-eq_left, max-eq_right}
use native.Mathlib.Omega.{arith}
use mathlib.Core.Path.{◌≡◌, refl, sym, ap, ◌∙◌}
use mathlib.Core.Logic.{◌⊎◌, inl, inr, ⊎_elim}
use mathlib.Core.List.{List, [], ◌∷◌, map}
use lib.ListN.{length, get_or, drop, length-map, get_or-map}
use lib.Dec.{eqb, leb, ltb}
use borrow.Author.Tests.{leb-true, leb-false, le-leb, lt-leb, ltb-true, ltb-false, lt-ltb, le-ltb, eqb-true, eqb-false}
use Rattle.paper.specs.Frame.{most_terms}
use Rattle.paper.specs.Order.{In, Ordered}
use Rattle.paper.specs.Search.{count_in, highest, highest_at, without}
use Rattle.paper.proofs.Tests.{by_bool}
use Rattle.paper.proofs.Steps.{front, sum, weighed, steps}
use Rattle.paper.proofs.SortLaws.{from_map, select_none}
use Rattle.search.specs.Cut.{height, up_to, over, sum_at, read_at}
use Rattle.search.proofs.SumLaws.{over_counts, total, total_agree, total_none, total_less, sum_places, count_places, sum_total, read_total}

abbrev Falls : List ℕ → Type 0
Falls l = Ordered (λ (a b : ℕ). b ≤ a) l

-- the greatest product at a place that isn't above a cut
abbrev level : ℕ → ℕ → ℕ
level z p = (z - (most_terms - 1 - p)) / most_terms

-- ---- one list

falls_front : (l : List ℕ) → Falls l → (u : ℕ) → In u l → u ≤ front l
unfolding front
falls_front [] o u m = absurd m
falls_front (v ∷ l) o u (inl e) = omega arith
falls_front (v ∷ l) o u (inr m) = o.0 u m

module _ (c : ℕ) where
  over_none : (l : List ℕ) → ((u : ℕ) → In u l → u ≤ c) → over c l ≡ 0
  over_none l h = over_counts c l ∙ ap length (select_none (ltb c) l (λ u m. le-ltb c u (h u m)))

  up_to_bound : (b : ℕ) (l : List ℕ) → ((u : ℕ) → In u l → u ≤ b) → up_to c l ≤ b
  unfolding up_to
  up_to_bound b [] h = omega arith
  up_to_bound b (v ∷ l) h =
      let ih = up_to_bound b l (λ u m. h u (inr m)) in
      by_bool (leb v c) (λ e. rw e (omega (arith, h v (inl refl)))) (λ e. rw e (omega arith))

  -- where none is above c, the first of a falling list is the greatest
  up_to_front : (l : List ℕ) → Falls l → ((u : ℕ) → In u l → u ≤ c) → up_to c l ≡ front l
  unfolding up_to front
  up_to_front [] o h = refl
  up_to_front (v ∷ l) o h = rw (le-leb v c (h v (inl refl))) (omega (arith, up_to_bound v l o.0))

  up_to_in : (l : List ℕ) (v : ℕ) → In v l → v ≤ c → v ≤ up_to c l
  unfolding up_to
  up_to_in [] v m h = absurd m
  up_to_in (u ∷ l) v (inl e) h = rw (le-leb u c (omega arith)) (omega arith)
  up_to_in (u ∷ l) v (inr m) h = omega (arith, up_to_in l v m h)

  -- the first isn't missed where it is above c or comes again
  up_to_rest : (v : ℕ) (l : List ℕ) → (v ≤ c → In v l) → up_to c (v ∷ l) ≡ up_to c l
  unfolding up_to
  up_to_rest v l h =
      by_bool (leb v c)
      (λ e. let b = leb-true v c e in rw e (omega (arith, up_to_in l v (h b) b)))
      (λ e. rw e (omega arith))

-- ---- the highest of the first

highest_there : (vs : List ℕ) → get_or vs (highest_at vs) 0 ≡ highest vs
unfolding highest highest_at
highest_there [] = refl
highest_there (v ∷ vs) =
    let ih = highest_there vs in
    by_bool (leb (highest vs) v) (λ e. rw e (omega (arith, leb-true (highest vs) v e))) (λ e. rw e (omega (arith, leb-false (highest vs) v e)))

-- it has the greatest height, with i places before the list
highest_height : (i : ℕ) (vs : List ℕ) (p : ℕ) → height (i + p) (get_or vs p 0) ≤ height (i + highest_at vs) (highest vs)
unfolding highest highest_at
highest_height i [] p = omega arith
highest_height i (v ∷ vs) zero =
    by_bool (leb (highest vs) v) (λ e. rw e (omega arith)) (λ e. rw e (omega (arith, leb-false (highest vs) v e)))
highest_height i (v ∷ vs) (suc p) =
    let ih = highest_height (suc i) vs p in
    by_bool (leb (highest vs) v) (λ e. rw e (omega (arith, leb-true (highest vs) v e))) (λ e. rw e (omega (arith, leb-false (highest vs) v e)))

in_place : (vss : List (List ℕ)) (p v : ℕ) → In v (get_or vss p []) → p < length vss
in_place [] p v m = absurd m
in_place (vs ∷ vss) zero v m = omega arith
in_place (vs ∷ vss) (suc p) v m = omega (arith, in_place vss p v m)

-- ---- a step

without_length : (i : ℕ) (vss : List (List ℕ)) → length (without i vss) ≡ length vss
unfolding without
without_length i [] = refl
without_length zero ([] ∷ vss) = refl
without_length zero ((v ∷ vs) ∷ vss) = refl
without_length (suc i) (vs ∷ vss) = ap suc (without_length i vss)

without_here : (i : ℕ) (vss : List (List ℕ)) → get_or (without i vss) i [] ≡ drop 1 (get_or vss i [])
unfolding without
without_here i [] = refl
without_here zero ([] ∷ vss) = refl
without_here zero ((v ∷ vs) ∷ vss) = refl
without_here (suc i) (vs ∷ vss) = without_here i vss

without_other : (i : ℕ) (vss : List (List ℕ)) (q : ℕ) → (q ≡ i → ⊥) → get_or (without i vss) q [] ≡ get_or vss q []
unfolding without
without_other i [] q h = refl
without_other zero (vs ∷ vss) zero h = absurd (h refl)
without_other zero ([] ∷ vss) (suc q) h = refl
without_other zero ((v ∷ vs) ∷ vss) (suc q) h = refl
without_other (suc i) (vs ∷ vss) zero h = refl
without_other (suc i) (vs ∷ vss) (suc q) h = without_other i vss q (λ e. h (ap suc e))

-- what holds of the list that loses its first and of every other list
without_each : (P : ℕ → List ℕ → List ℕ → Type 0) (i : ℕ) (vss : List (List ℕ)) → P i (get_or vss i []) (drop 1 (get_or vss i []))
    → ((q : ℕ) → P q (get_or vss q []) (get_or vss q [])) → (q : ℕ) → P q (get_or vss q []) (get_or (without i vss) q [])
without_each P i vss here other q =
    by_bool (eqb q i)
    (λ e. rw (eqb-true q i e, without_here i vss) here)
    (λ e. rw (without_other i vss q (eqb-false q i e)) (other q))

-- ---- the walk down

-- the sum of what is next below a cut, by products
abbrev next_sum : ℕ → List (List ℕ) → ℕ
next_sum z vss = total (length vss) (λ p. up_to (level z p) (get_or vss p []))

-- how many are above it
abbrev above : ℕ → List (List ℕ) → ℕ
above z vss = total (length vss) (λ p. over (level z p) (get_or vss p []))

-- no posting is higher than a cut
abbrev Within : ℕ → List (List ℕ) → Type 0
Within z vss = (p u : ℕ) → In u (get_or vss p []) → height p u ≤ z

-- lists of products, of which the sum is below s at a cut and not below it at any posting above it
record Walk (s x : ℕ) (vss : List (List ℕ)) : Type 0 where
  few : length vss ≤ most_terms
  falls : (p : ℕ) → Falls (get_or vss p [])
  positive : (p u : ℕ) → In u (get_or vss p []) → 0 < u
  low : next_sum x vss < s
  high : (p u : ℕ) → In u (get_or vss p []) → x < height p u → s ≤ next_sum (height p u) vss

steps_none : (n s : ℕ) (vss : List (List ℕ)) → sum (map front vss) < s → steps n s vss ≡ 0
unfolding steps
steps_none zero s vss h = refl
steps_none (suc n) s vss h = rw (lt-ltb (sum (map front vss)) s h)

module _ (s x : ℕ) (vss : List (List ℕ)) (w : Walk s x vss) where
  within_level : (z : ℕ) → Within z vss → (p u : ℕ) → In u (get_or vss p []) → u ≤ level z p
  within_level z h p u m = omega (arith, h p u m, in_place vss p u m, w.few, w.positive p u m)

  fronts : (z : ℕ) → Within z vss → sum (map front vss) ≡ next_sum z vss
  fronts z h =
      sum_places front vss
      ∙ total_agree (length vss) _ _ (λ p l. sym (up_to_front (level z p) (get_or vss p []) (w.falls p) (within_level z h p)))

  -- where all is below the cut, nothing is read
  idle : (n : ℕ) → Within x vss → steps n s vss ≡ above x vss
  idle n h =
      steps_none n s vss (omega (arith, w.low, fronts x h))
      ∙ sym (total_none (length vss) _ (λ p l. over_none (level x p) (get_or vss p []) (within_level x h p)))

  -- where the highest of the first is
  abbrev place : ℕ
  place = highest_at (map front vss)

  highest_front : front (get_or vss place []) ≡ highest (map front vss)
  unfolding front
  highest_front = sym (get_or-map front vss place []) ∙ highest_there (map front vss)

  highest_within : Within (height place (highest (map front vss))) vss
  unfolding front
  highest_within p u m =
      let e : get_or (map front vss) p 0 ≡ front (get_or vss p []) = get_or-map front vss p [] in
      omega (arith, e, falls_front (get_or vss p []) (w.falls p) u m, highest_height 0 (map front vss) p)

  -- the highest posting, where it is above the cut, with what follows it in its list
  record Crest : Type 0 where
    top : ℕ
    rest : List ℕ
    here : get_or vss place [] ≡ top ∷ rest
    is_above : x < height place top
    most : Within (height place top) vss

  crest : Within x vss ⊎ Crest
  unfolding front
  crest = go (get_or vss place []) refl
    where
      go : (t : List ℕ) → get_or vss place [] ≡ t → Within x vss ⊎ Crest
      go [] e = inl (λ p u m. absurd (omega (arith, highest_front, ap front e, highest_within p u m, w.positive p u m)))
      go (v ∷ l) e =
          let same : v ≡ highest (map front vss) = sym (ap front e) ∙ highest_front in
          by_bool (leb (height place v) x)
          (λ b. inl (λ p u m. omega (arith, leb-true (height place v) x b, highest_within p u m)))
          (λ b. inr (record { top = v; rest = l; here = e; is_above = leb-false (height place v) x b; most = λ p u m. omega (arith, highest_within p u m) }))

  -- reading it
  module _ (c : Crest) where
    abbrev left : List (List ℕ)
    left = without place vss

    is_in : In c.top (get_or vss place [])
    is_in = rw c.here (inl refl)

    in_bounds : (place < most_terms) × (0 < c.top)
    in_bounds = (omega (arith, in_place vss place c.top is_in, w.few), w.positive place c.top is_in)

    over_level : level x place < c.top
    over_level = omega (arith, in_bounds.0, in_bounds.1, c.is_above)

    -- a number of each list, one less for the list that loses its first
    less : (f : ℕ → List ℕ → ℕ) → f place (c.top ∷ c.rest) ≡ suc (f place c.rest)
        → total (length vss) (λ q. f q (get_or vss q [])) ≡ suc (total (length left) (λ q. f q (get_or left q [])))
    less f e =
        rw (without_length place vss)
        (total_less (length vss) place (λ q. f q (get_or vss q [])) (λ q. f q (get_or left q [])) (in_place vss place c.top is_in)
        (rw (without_here place vss, c.here) e) (λ q h. rw (without_other place vss q h)))

    count_less : count_in vss ≡ suc (count_in left)
    count_less = rw (count_places vss, count_places left) (less (λ q a. length a) refl)

    above_less : above x vss ≡ suc (above x left)
    unfolding over
    above_less = less (λ q a. over (level x q) a) (rw (lt-ltb (level x place) c.top over_level) (omega arith))

    next_same : (z : ℕ) → (c.top ≤ level z place → In c.top c.rest) → next_sum z left ≡ next_sum z vss
    next_same z h =
        rw (without_length place vss)
        (total_agree (length vss) _ _ (λ q _. without_each (λ q a b. up_to (level z q) b ≡ up_to (level z q) a) place vss
        (rw c.here (sym (up_to_rest (level z place) c.top c.rest h))) (λ q. refl) q))

    in_before : (q u : ℕ) → In u (get_or left q []) → In u (get_or vss q [])
    in_before = without_each (λ q a b. (u : ℕ) → In u b → In u a) place vss (rw c.here (λ u m. inr m)) (λ q u m. m)

    -- only a posting with the same product in the same list is as high
    again : (p u : ℕ) → In u (get_or left p []) → c.top ≤ level (height p u) place → In c.top c.rest
    again p u m h =
        let b = in_before p u m in
        let t = c.most p u b in
        let q : p < most_terms = omega (arith, in_place vss p u b, w.few) in
        let there : p ≡ place = omega (arith, in_bounds.0, in_bounds.1) in
        let equal : u ≡ c.top = omega (arith, in_bounds.0, in_bounds.1) in
        rw (equal, there, without_here place vss, c.here) at m

    walk_left : Walk s x left
    walk_left = record {
      few = rw (without_length place vss) w.few;
      falls = without_each (λ q a b. Falls b) place vss (rw c.here (rw c.here at (w.falls place)).1) w.falls;
      positive = λ p u m. w.positive p u (in_before p u m);
      low = rw (next_same x (λ h. absurd (omega (arith, over_level)))) w.low;
      high = λ p u m h. rw (next_same (height p u) (again p u m)) (w.high p u (in_before p u m) h);
    }

    step : (n : ℕ) → steps n s left ≡ above x left → steps (suc n) s vss ≡ above x vss
    unfolding steps
    step n ih =
        rw (le-ltb (sum (map front vss)) s (omega (arith, w.high place c.top is_in c.is_above, fronts (height place c.top) c.most)))
        (ap suc ih ∙ sym above_less)

-- the steps read what is above the cut, one by one
walk : (s x n : ℕ) (vss : List (List ℕ)) → count_in vss ≡ n → Walk s x vss → steps n s vss ≡ above x vss
walk s x zero vss e w = ⊎_elim (idle s x vss w zero) (λ c. absurd (omega (arith, count_less s x vss w c))) (crest s x vss w)
walk s x (suc n) vss e w =
    ⊎_elim
    (idle s x vss w (suc n))
    (λ c. step s x vss w c n (walk s x n (left s x vss w c) (omega (arith, count_less s x vss w c)) (walk_left s x vss w c)))
    (crest s x vss w)

-- ---- a weight times each impact

module _ (w : ℕ) where
  falls_times : (l : List ℕ) → Falls l → Falls (map (λ v. w * v) l)
  falls_times [] o = tt
  falls_times (v ∷ l) o =
      ((λ u m. let r = from_map (λ v. w * v) u l m in rw r.2 (mul-le-mul_left w (o.0 r.0 r.1))), falls_times l o.1)

  times_max : (a b : ℕ) → max (w * a) (w * b) ≡ w * max a b
  times_max a b =
      by_bool (leb a b)
      (λ e. let h = leb-true a b e in rw (max-eq_right h) (max-eq_right (mul-le-mul_left w h)))
      (λ e. let h : b ≤ a = omega (arith, leb-false a b e) in rw (max-eq_left h) (max-eq_left (mul-le-mul_left w h)))

  module _ (some : 1 ≤ w) (c : ℕ) where
    -- a product is at most c where the impact is at most c / w
    times_low : (v : ℕ) → v ≤ c / w → w * v ≤ c
    times_low v h = rw (mul_comm w v) ((le-div_iff_mul-le {k = w} {x = v} {y = c} some).0 h)

    times_high : (v : ℕ) → c / w < v → c < w * v
    times_high v h = rw (mul_comm w v) ((div-lt_iff_lt-mul {k = w} {x = c} {y = v} some).0 h)

    up_to_times : (l : List ℕ) → up_to c (map (λ v. w * v) l) ≡ w * up_to (c / w) l
    unfolding up_to
    up_to_times [] = omega arith
    up_to_times (v ∷ l) =
        let ih = up_to_times l in
        by_bool (leb v (c / w))
        (λ e. rw (e, le-leb (w * v) c (times_low v (leb-true v (c / w) e)), ih) (times_max v (up_to (c / w) l)))
        (λ e. rw (e, lt-leb (w * v) c (times_high v (leb-false v (c / w) e)), ih)
        (zero-max (w * up_to (c / w) l) ∙ ap (λ (n : ℕ). w * n) (sym (zero-max (up_to (c / w) l)))))

    over_times : (l : List ℕ) → over c (map (λ v. w * v) l) ≡ over (c / w) l
    unfolding over
    over_times [] = refl
    over_times (v ∷ l) =
        by_bool (ltb (c / w) v)
        (λ e. rw (e, lt-ltb c (w * v) (times_high v (ltb-true (c / w) v e)), over_times l))
        (λ e. rw (e, le-ltb c (w * v) (times_low v (ltb-false (c / w) v e)), over_times l))

weighed_length : (ws : List ℕ) (ls : List (List ℕ)) → length ls ≡ length ws → length (weighed ws ls) ≡ length ws
unfolding weighed
weighed_length [] ls e = refl
weighed_length (w ∷ ws) [] e = absurd (omega arith)
weighed_length (w ∷ ws) (l ∷ ls) e = ap suc (weighed_length ws ls (omega arith))

weighed_count : (ws : List ℕ) (ls : List (List ℕ)) → length ls ≡ length ws → count_in (weighed ws ls) ≡ count_in ls
unfolding weighed count_in
weighed_count [] [] e = refl
weighed_count [] (l ∷ ls) e = absurd (omega arith)
weighed_count (w ∷ ws) [] e = absurd (omega arith)
weighed_count (w ∷ ws) (l ∷ ls) e = omega (arith, length-map l (λ v. w * v), weighed_count ws ls (omega arith))

weighed_place : (ws : List ℕ) (ls : List (List ℕ)) → length ls ≡ length ws → (p : ℕ)
    → get_or (weighed ws ls) p [] ≡ map (λ v. get_or ws p 0 * v) (get_or ls p [])
unfolding weighed
weighed_place [] [] e p = refl
weighed_place [] (l ∷ ls) e p = absurd (omega arith)
weighed_place (w ∷ ws) [] e p = absurd (omega arith)
weighed_place (w ∷ ws) (l ∷ ls) e zero = refl
weighed_place (w ∷ ws) (l ∷ ls) e (suc p) = weighed_place ws ls (omega arith) p

module _ (ws : List ℕ) (ls : List (List ℕ)) (same : length ls ≡ length ws) where
  abbrev impacts : ℕ → List ℕ
  impacts p = get_or ls p []

  in_weighed : (p u : ℕ) → In u (get_or (weighed ws ls) p []) → (v : ℕ) × In v (impacts p) × (u ≡ get_or ws p 0 * v)
  in_weighed p u m = from_map (λ v. get_or ws p 0 * v) u (impacts p) (rw (weighed_place ws ls same p) at m)

  module _ (heavy : (p : ℕ) → p < length ws → 1 ≤ get_or ws p 0) where
    next_weighed : (z : ℕ) → next_sum z (weighed ws ls) ≡ sum_at (length ws) ws impacts z
    next_weighed z =
        rw (weighed_length ws ls same, sum_total ws impacts z (length ws))
        (total_agree (length ws) _ _ (λ p l. rw (weighed_place ws ls same p) (up_to_times (get_or ws p 0) (heavy p l) (level z p) (impacts p))))

    above_weighed : (z : ℕ) → above z (weighed ws ls) ≡ read_at (length ws) ws impacts z
    above_weighed z =
        rw (weighed_length ws ls same, read_total ws impacts z (length ws))
        (total_agree (length ws) _ _ (λ p l. rw (weighed_place ws ls same p) (over_times (get_or ws p 0) (heavy p l) (level z p) (impacts p))))

-- THE LAW: where all heights are below a limit, and the sum of what is next is below s at a cut but at none above it, the steps read what is above the cut
pub cut_steps : (ws : List ℕ) (ls : List (List ℕ)) (s x limit : ℕ) → length ls ≡ length ws → length ls ≤ most_terms
    → ((p : ℕ) → p < length ws → 1 ≤ get_or ws p 0) → ((p : ℕ) → Ordered (λ (a b : ℕ). b ≤ a) (get_or ls p []))
    → ((p v : ℕ) → In v (get_or ls p []) → 0 < v) → ((p v : ℕ) → In v (get_or ls p []) → height p (get_or ws p 0 * v) < limit)
    → sum_at (length ws) ws (λ p. get_or ls p []) x < s → ((z : ℕ) → x < z → z < limit → s ≤ sum_at (length ws) ws (λ p. get_or ls p []) z)
    → steps (count_in ls) s (weighed ws ls) ≡ read_at (length ws) ws (λ p. get_or ls p []) x
cut_steps ws ls s x limit same few heavy falls positive below low high =
    walk s x (count_in ls) (weighed ws ls) (weighed_count ws ls same) start ∙ above_weighed ws ls same heavy x
  where
    start : Walk s x (weighed ws ls)
    start = record {
      few = rw (weighed_length ws ls same) (omega arith);
      falls = λ p. rw (weighed_place ws ls same p) (falls_times (get_or ws p 0) (get_or ls p []) (falls p));
      positive = λ p u m.
          let r = in_weighed ws ls same p u m in
          rw r.2 (mul-pos (heavy p (omega (arith, in_place ls p r.0 r.1))) (positive p r.0 r.1));
      low = rw (next_weighed ws ls same heavy x) low;
      high = λ p u m h.
          let r = in_weighed ws ls same p u m in
          let under : height p u < limit = rw r.2 (below p r.0 r.1) in
          rw (next_weighed ws ls same heavy (height p u)) (high (height p u) h under);
    }
