-- One look at each of a record's terms in a table of impacts: a turn of it, how large sums get, and what it says of the query. Assumes nothing.
use Prim.Native.Nat.{ℕ, zero, suc, ◌+◌, ◌*◌, ◌/◌, ◌%◌, ◌≤◌, ◌<◌}
use native.Mathlib.Nat.{mul-le-mul, not-suc-le-zero, le_of_suc-le-suc}
use native.Mathlib.Numerals.{add-one}
use native.Mathlib.Omega.{arith}
use mathlib.Core.Path.{◌≡◌, refl, sym, ap, ap₂, ◌∙◌}
use mathlib.Core.Bool.{Bool, ◌||◌, or_assoc, or-false}
use mathlib.Core.List.{List, [], ◌∷◌}
use mir.Syntax.{w16}
use mir.Val.{Fits}
use lib.ListN.{length, get_or, take, drop}
use lib.Seq.{take-length, get_or-take, get_or-drop}
use lib.Dec.{ltb}
use Rattle.paper.specs.Frame.{Pair}
use Rattle.paper.specs.Impact.{score_by}
use Rattle.paper.specs.Rank as Rank
use Rattle.paper.specs.Sound.{Terms}
use Rattle.paper.specs.Threshold.{exceeds_by, term_at, weight_at}
use Rattle.paper.specs.Layout.{pairs_in, thresholds_in}
use Rattle.rank.specs.Weights.{weight_limit}
use Rattle.window.specs.Table.{entry_of}
use Rattle.query.specs.Record.{thresholds, Says}
use Rattle.query.specs.Touch.{found_sum, found_above}
use Rattle.query.proofs.QueryLaws.{term_said, weight_said}

-- ---- a turn

-- what it adds is no more than this
abbrev pub most : ℕ
most = weight_limit * 65536

pub product_most : (pair : ℕ) {v : ℕ} → v < 65536 → pair % 16 * v ≤ most
product_most pair small = mul-le-mul {n₂ = weight_limit} {m₂ = 65536} (omega arith) (omega arith)

module _ (w : List ℕ) (q : ℕ) (table : List ℕ) (i : ℕ) {pair v : ℕ} (read : pair ≡ get_or w (pairs_in q + i) 0)
    (given : v ≡ entry_of table (pair / 16 % 1024)) where
  pub above_turn : {b : Bool} {h : ℕ} → h ≡ get_or w (thresholds_in q + i) 0 → b ≡ found_above w q table i
      → (b || ltb h v) ≡ found_above w q table (i + 1)
  unfolding found_above
  above_turn e before = rw (add-one, before, e, given, read) refl

  pub sum_turn : {sum : ℕ} → (sum ≡ found_sum w q table i) × (sum ≤ i * most) → ((t : ℕ) → Fits w16 (entry_of table t))
      → (sum + pair % 16 * v ≡ found_sum w q table (i + 1)) × (sum + pair % 16 * v ≤ (i + 1) * most)
  unfolding found_sum
  sum_turn {sum} before fits =
      let small : v < 65536 = omega (arith, given, (fits (pair / 16 % 1024)).fits) in
      let p = product_most pair small in
      (rw add-one (ap₂ (λ (x y : ℕ). x + y) before.0 (rw (given, read) refl)), omega (arith, before.1))

-- ---- what it says of the query

module _ (f : ℕ → ℕ) where
  score_more : (qs : List Pair) (i : ℕ) → i < length qs → score_by f (take (suc i) qs) ≡ score_by f (take i qs) + weight_at qs i * f (term_at qs i)
  unfolding score_by weight_at term_at
  score_more [] i h = absurd (not-suc-le-zero h)
  score_more (q ∷ qs) zero h = omega arith
  score_more (q ∷ qs) (suc i) h = let ih = score_more qs i (le_of_suc-le-suc h) in omega arith

  exceeds_more : (qs : List Pair) (hs : List ℕ) (i : ℕ) → i < length qs → i < length hs
      → exceeds_by f (take (suc i) qs) hs ≡ (exceeds_by f (take i qs) hs || ltb (get_or hs i 0) (f (term_at qs i)))
  unfolding exceeds_by term_at
  exceeds_more [] hs i h k = absurd (not-suc-le-zero h)
  exceeds_more (q ∷ qs) [] i h k = absurd (not-suc-le-zero k)
  exceeds_more (q ∷ qs) (x ∷ hs) zero h k = or-false (ltb x (f q.term))
  exceeds_more (q ∷ qs) (x ∷ hs) (suc i) h k =
      ap (λ (b : Bool). ltb x (f q.term) || b) (exceeds_more qs hs i (le_of_suc-le-suc h) (le_of_suc-le-suc k))
      ∙ sym (or_assoc (ltb x (f q.term)) (exceeds_by f (take i qs) hs) (ltb (get_or hs i 0) (f (term_at qs i))))

module _ {w : List ℕ} {q : ℕ} {query : Rank.Query} (terms : Terms query) (says : Says w q query) (table : List ℕ) where
  abbrev qs : List Pair
  qs = query.terms

  abbrev hs : List ℕ
  hs = thresholds w q (length qs)

  sum_first : (i : ℕ) → i ≤ length qs → found_sum w q table i ≡ score_by (entry_of table) (take i qs)
  unfolding found_sum score_by
  sum_first zero h = refl
  sum_first (suc i) h =
      ap₂ (λ (x y : ℕ). x + y) (sum_first i (omega arith))
      (rw (term_said terms says i h, weight_said terms says i h) refl)
      ∙ sym (score_more (entry_of table) qs i h)

  threshold_at : length hs ≡ length qs → (i : ℕ) → i < length qs → get_or hs i 0 ≡ get_or w (thresholds_in q + i) 0
  unfolding thresholds
  threshold_at l i h = get_or-take (length qs) (drop (thresholds_in q) w) i 0 h ∙ get_or-drop (thresholds_in q) w i 0

  above_first : length hs ≡ length qs → (i : ℕ) → i ≤ length qs → found_above w q table i ≡ exceeds_by (entry_of table) (take i qs) hs
  unfolding found_above exceeds_by
  above_first l zero h = refl
  above_first l (suc i) h =
      ap₂ ◌||◌ (above_first l i (omega arith)) (rw (term_said terms says i h, ← threshold_at l i h) refl)
      ∙ sym (exceeds_more (entry_of table) qs hs i h (omega arith))

  pub sum_found : found_sum w q table (length qs) ≡ score_by (entry_of table) qs
  sum_found = sum_first (length qs) (omega arith) ∙ ap (score_by (entry_of table)) (take-length qs)

  pub above_found : length hs ≡ length qs → found_above w q table (length qs) ≡ exceeds_by (entry_of table) qs hs
  above_found l = above_first l (length qs) (omega arith) ∙ ap (λ (ps : List Pair). exceeds_by (entry_of table) ps hs) (take-length qs)
