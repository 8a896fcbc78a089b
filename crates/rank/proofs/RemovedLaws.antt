-- `removed`, on plain values: where its loop starts, and a turn of it; serials taken out one after the other. Assumes nothing.
use Prim.Native.Nat.{ℕ, zero, suc, ◌+◌, ◌≤◌, ◌<◌}
use native.Mathlib.Nat.{le_of_suc-le-suc, not-suc-le-zero}
use native.Mathlib.Numerals.{add-one}
use native.Mathlib.Omega.{arith}
use mathlib.Core.Path.{◌≡◌, refl, sym, ap, ◌∙◌}
use mathlib.Core.Bool.{Bool, not, ◌&&◌}
use mathlib.Core.List.{List, [], ◌∷◌, ◌++◌, append-nil}
use lib.ListN.{length, get_or, set, replicate, length-set}
use lib.Seq.{get_or-set_other}
use lib.Dec.{eqb}
use borrow.Author.Tests.{eqb-true, eqb-false, eq-eqb, ne_eqb}
use Rattle.paper.specs.Frame.{most_listed}
use Rattle.paper.specs.Rank.{Entry}
use Rattle.paper.specs.Sort.{select}
use Rattle.paper.proofs.Tests.{by_bool}
use Rattle.paper.proofs.SortLaws.{select_append, select_all, select_map}
use Rattle.rank.specs.Listing.{Keyed, keyed_entry, keyed, keyed_with, listed, ZeroFrom, without, withouts, has_number}
use Rattle.rank.proofs.LineLaws.{new}

-- ---- one place more

listed_suc : (i : ℕ) (a b : List ℕ) → i < length a → i < length b
    → listed keyed_with (suc i) a b ≡ listed keyed_with i a b ++ (new (get_or a i 0) (get_or b i 0) ∷ [])
unfolding listed
listed_suc i [] b ha hb = absurd (not-suc-le-zero ha)
listed_suc i (x ∷ xs) [] ha hb = absurd (not-suc-le-zero hb)
listed_suc zero (x ∷ xs) (y ∷ ys) ha hb = refl
listed_suc (suc i) (x ∷ xs) (y ∷ ys) ha hb =
    ap (λ (r : List Keyed). keyed_with x y ∷ r) (listed_suc i xs ys (le_of_suc-le-suc ha) (le_of_suc-le-suc hb))

-- a line written at the next place
listed_set : (s c n : ℕ) (a b : List ℕ) → n < length a → n < length b
    → listed keyed_with (suc n) (set a n s) (set b n c) ≡ listed keyed_with n a b ++ (new s c ∷ [])
unfolding listed
listed_set s c n [] b ha hb = absurd (not-suc-le-zero ha)
listed_set s c n (x ∷ xs) [] ha hb = absurd (not-suc-le-zero hb)
listed_set s c zero (x ∷ xs) (y ∷ ys) ha hb = refl
listed_set s c (suc n) (x ∷ xs) (y ∷ ys) ha hb =
    ap (λ (r : List Keyed). keyed_with x y ∷ r) (listed_set s c n xs ys (le_of_suc-le-suc ha) (le_of_suc-le-suc hb))

zero_set : (n v : ℕ) (a : List ℕ) → ZeroFrom n a → ZeroFrom (n + 1) (set a n v)
zero_set n v a z i h = get_or-set_other a n i v 0 (λ e. omega arith) ∙ z i (omega arith)

pub zero_none : (n : ℕ) → ZeroFrom 0 (replicate n 0)
zero_none zero i h = refl
zero_none (suc n) zero h = refl
zero_none (suc n) (suc i) h = zero_none n i (omega arith)

-- ---- the loop

-- i places of the arrays a and b are passed, and n of them stay: they are the first of the arrays s and c, and all else there is 0
pub record Passed (serial : ℕ) (a b : List ℕ) (i n : ℕ) (s c : List ℕ) : Type 0 where
  pub list : listed keyed_with n s c ≡ without serial (listed keyed_with i a b)
  pub no_more : n ≤ i
  pub serials_long : length s ≡ most_listed
  pub keys_long : length c ≡ most_listed
  pub serials_zero : ZeroFrom n s
  pub keys_zero : ZeroFrom n c

pub passed_start : (serial : ℕ) (a b : List ℕ) → Passed serial a b 0 0 (replicate most_listed 0) (replicate most_listed 0)
unfolding listed select
passed_start serial a b = record {
  list = refl;
  no_more = omega arith;
  serials_long = refl;
  keys_long = refl;
  serials_zero = zero_none most_listed;
  keys_zero = zero_none most_listed;
}

module _ {serial : ℕ} {a b : List ℕ} {i n : ℕ} {s c : List ℕ} (p : Passed serial a b i n s c) (ha : i < length a) (hb : i < length b) where
  -- the list with one place more passed
  further : without serial (listed keyed_with (i + 1) a b) ≡ without serial (listed keyed_with i a b) ++ without serial (new (get_or a i 0) (get_or b i 0) ∷ [])
  further =
      rw (add-one, listed_suc i a b ha hb)
      (select_append (λ (x : Keyed). not (eqb x.serial serial)) (listed keyed_with i a b) (new (get_or a i 0) (get_or b i 0) ∷ []))

  -- the line here stays ..
  pub passed_stays : (x y : ℕ) → x ≡ get_or a i 0 → y ≡ get_or b i 0 → n < most_listed → (get_or a i 0 ≡ serial → ⊥)
      → Passed serial a b (i + 1) (n + 1) (set s n x) (set c n y)
  unfolding select
  passed_stays x y ex ey h ne = record {
    list = rw (add-one n, listed_set x y n s c (omega arith) (omega arith), further, ne_eqb (get_or a i 0) serial ne, p.list, ex, ey);
    no_more = omega arith;
    serials_long = simp length-set (omega arith);
    keys_long = simp length-set (omega arith);
    serials_zero = zero_set n x s p.serials_zero;
    keys_zero = zero_set n y c p.keys_zero;
  }

  -- .. or goes
  pub passed_leaves : get_or a i 0 ≡ serial → Passed serial a b (i + 1) n s c
  unfolding select
  passed_leaves e = record {
    list = rw (further, eq-eqb (get_or a i 0) serial e) (p.list ∙ sym (append-nil (without serial (listed keyed_with i a b))));
    no_more = omega arith;
    serials_long = p.serials_long;
    keys_long = p.keys_long;
    serials_zero = p.serials_zero;
    keys_zero = p.keys_zero;
  }

-- ---- one serial after the other

-- a test made after another is both at once
pub select_both : {A : Type 0} (f g both : A → Bool) → ((x : A) → both x ≡ (f x && g x)) → (l : List A) → select g (select f l) ≡ select both l
unfolding select
select_both f g both h [] = refl
select_both f g both h (x ∷ xs) =
    let ih = select_both f g both h xs in
    let e = h x in
    by_bool (f x) (λ p. by_bool (g x) (λ u. rw (p, u, e, p, u, ih)) (λ u. rw (p, u, e, p, u, ih))) (λ p. rw (p, e, p) ih)

stays_both : (s : ℕ) (ss : List ℕ) (x : Keyed) → not (has_number x.serial (s ∷ ss)) ≡ (not (eqb x.serial s) && not (has_number x.serial ss))
unfolding has_number
stays_both s ss x =
    by_bool (eqb x.serial s)
    (λ p. rw (p, eq-eqb s x.serial (sym (eqb-true x.serial s p))))
    (λ p. rw (p, ne_eqb s x.serial (λ e. eqb-false x.serial s p (sym e))))

-- some serials taken out of lines
without_all : (ss : List ℕ) (l : List Keyed) → withouts ss l ≡ select (λ x. not (has_number x.serial ss)) l
unfolding withouts has_number
without_all [] l = sym (select_all _ l (λ x m. refl))
without_all (s ∷ ss) l = without_all ss (without s l) ∙ select_both _ _ (λ (x : Keyed). not (has_number x.serial (s ∷ ss))) (stays_both s ss) l

pub without_keyed : (ss : List ℕ) (es : List Entry) → withouts ss (keyed es) ≡ keyed (select (λ e. not (has_number e.of.serial ss)) es)
without_keyed ss es = without_all ss (keyed es) ∙ select_map keyed_entry (λ (x : Keyed). not (has_number x.serial ss)) es
