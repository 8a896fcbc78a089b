-- Why thresholds are enough: candidates give the whole ranking, and a query that a change of the window doesn't reach stays settled.
-- Assumes nothing.
use Prim.Native.Nat.{ℕ, zero, suc, ◌+◌, ◌*◌, ◌≤◌, ◌<◌, max}
use native.Mathlib.Nat.{eq-or-lt_of_le, mul-le-mul_left, mul-zero}
use native.Mathlib.Omega.{arith}
use mathlib.Core.Path.{◌≡◌, refl, sym, ap, ap₂, ◌∙◌, subst}
use mathlib.Core.Bool as Bools
use mathlib.Core.Bool.{Bool, true, false, ◌||◌, false≢true}
use mathlib.Core.Logic.{◌⊎◌, inl, inr, ⊎_elim, ◌↔◌}
use mathlib.Core.List.{List, [], ◌∷◌, ◌++◌, map}
use lib.ListN.{length, get_or, take}
use lib.Dec.{ltb}
use borrow.Author.Tests.{ltb-true, ltb-false, lt-ltb, le-ltb, le-leb, lt-leb}
use Rattle.paper.specs.Frame.{Pair}
use Rattle.paper.specs.Window.{Message}
use Rattle.paper.specs.Impact.{impact_in, score_by, score}
use Rattle.paper.specs.Order.{In, Split}
use Rattle.paper.specs.Sort.{select, sort}
use Rattle.paper.specs.Rank.{Query, Entry, ahead, entry, scoring, entries, ranking, lines, serials}
use Rattle.paper.specs.Threshold.{term_at, threshold_sum, Exceeds, exceeds_by, exceeds, candidates, reached, last_score, Tight, Kept, Settled}
use Rattle.paper.proofs.Tests.{by_bool, or_false, or_true}
use Rattle.paper.proofs.SortLaws.{
  in_left,
  in_right,
  select_all,
  select_in,
  select_take,
  select_among,
  select_select,
  select_change,
  select_map,
  count_sort,
  best,
}
use Rattle.paper.proofs.FrameLaws.{level_most}
use Rattle.paper.proofs.RankLaws.{ranking_length, ranking_last}

-- ---- what gives a term's impact

module _ (f g : ℕ → ℕ) where
  -- two that agree on the query's terms
  pub score_agree : (qs : List Pair) → ((p : Pair) → In p qs → f p.term ≡ g p.term) → score_by f qs ≡ score_by g qs
  unfolding score_by
  score_agree [] e = refl
  score_agree (q ∷ qs) e = ap₂ (λ (x y : ℕ). q.amount * x + y) (e q (inl refl)) (score_agree qs (λ p m. e p (inr m)))

  pub exceeds_agree : (qs : List Pair) (hs : List ℕ) → ((p : Pair) → In p qs → f p.term ≡ g p.term) → exceeds_by f qs hs ≡ exceeds_by g qs hs
  unfolding exceeds_by
  exceeds_agree [] hs e = refl
  exceeds_agree (q ∷ qs) [] e = refl
  exceeds_agree (q ∷ qs) (h ∷ hs) e = ap₂ (λ (x : ℕ) (b : Bool). ltb h x || b) (e q (inl refl)) (exceeds_agree qs hs (λ p m. e p (inr m)))

  -- one that gives no more scores no more
  pub score_most : (qs : List Pair) → ((t : ℕ) → f t ≤ g t) → score_by f qs ≤ score_by g qs
  unfolding score_by
  score_most [] l = omega arith
  score_most (q ∷ qs) l = let ih = score_most qs l in omega (arith, mul-le-mul_left q.amount (l q.term))

  -- the greater of two exceeds a threshold where one of them does
  pub exceeds_either : (qs : List Pair) (hs : List ℕ) → exceeds_by (λ t. max (f t) (g t)) qs hs ≡ (exceeds_by f qs hs || exceeds_by g qs hs)
  unfolding exceeds_by
  exceeds_either [] hs = refl
  exceeds_either (q ∷ qs) [] = refl
  exceeds_either (q ∷ qs) (h ∷ hs) =
      rw (greater_than h (f q.term) (g q.term), exceeds_either qs hs)
      (shuffle (ltb h (f q.term)) (ltb h (g q.term)) (exceeds_by f qs hs) (exceeds_by g qs hs))
    where
      greater_than : (h x y : ℕ) → ltb h (max x y) ≡ (ltb h x || ltb h y)
      greater_than h x y = by_bool (ltb h x)
          (λ e. rw e (lt-ltb h (max x y) (omega (arith, ltb-true h x e))))
          (λ e. rw e (by_bool (ltb h y)
          (λ z. rw z (lt-ltb h (max x y) (omega (arith, ltb-true h y z))))
          (λ z. rw z (le-ltb h (max x y) (omega (arith, ltb-false h x e, ltb-false h y z))))))

      shuffle : (a b c d : Bool) → ((a || b) || (c || d)) ≡ ((a || c) || (b || d))
      shuffle true b c d = refl
      shuffle false true true d = refl
      shuffle false true false d = refl
      shuffle false false c d = refl

module _ (f : ℕ → ℕ) (none : (t : ℕ) → f t ≡ 0) where
  pub exceeds_none : (qs : List Pair) (hs : List ℕ) → exceeds_by f qs hs ≡ false
  unfolding exceeds_by
  exceeds_none [] hs = refl
  exceeds_none (q ∷ qs) [] = refl
  exceeds_none (q ∷ qs) (h ∷ hs) = rw (none q.term, le-ltb h 0 (omega arith)) (exceeds_none qs hs)

-- ---- a message that exceeds no threshold

pub score_below : (qs : List Pair) (hs : List ℕ) (ps : List Pair) → exceeds qs hs ps ≡ false → length hs ≡ length qs → score qs ps ≤ threshold_sum qs hs
unfolding exceeds_by threshold_sum score_by
score_below [] hs ps e n = omega arith
score_below (q ∷ qs) [] ps e n = omega arith
score_below (q ∷ qs) (h ∷ hs) ps e n =
    let d = or_false (ltb h (impact_in ps q.term)) (exceeds qs hs ps) e in
    let low : impact_in ps q.term ≤ h = omega (arith, ltb-false) in
    omega (arith, mul-le-mul_left q.amount low, score_below qs hs ps d.1 (omega arith))

above_exceeds : (qs : List Pair) (hs : List ℕ) (ps : List Pair) → length hs ≡ length qs → threshold_sum qs hs < score qs ps → exceeds qs hs ps ≡ true
above_exceeds qs hs ps n h = by_bool (exceeds qs hs ps) (λ e. e) (λ e. absurd (omega (arith, score_below qs hs ps e n)))

-- a message that exceeds one is strictly above it in some term
pub exceeds_strictly : (qs : List Pair) (hs : List ℕ) (ps : List Pair) → exceeds qs hs ps ≡ true → Exceeds qs hs ps
unfolding exceeds_by term_at
exceeds_strictly [] hs ps e = absurd (false≢true e)
exceeds_strictly (q ∷ qs) [] ps e = absurd (false≢true e)
exceeds_strictly (q ∷ qs) (h ∷ hs) ps e =
    ⊎_elim
    (λ here. (0, omega arith, ltb-true h (impact_in ps q.term) here))
    (λ there. let r = exceeds_strictly qs hs ps there in (suc r.0, omega (arith, r.1), r.2))
    (or_true (ltb h (impact_in ps q.term)) (exceeds qs hs ps) e)

strictly_exceeds : (qs : List Pair) (hs : List ℕ) (ps : List Pair) → length hs ≡ length qs → (i : ℕ) → i < length qs
    → get_or hs i 0 < impact_in ps (term_at qs i) → exceeds qs hs ps ≡ true
unfolding exceeds_by term_at
strictly_exceeds [] hs ps n i l h = absurd (omega arith)
strictly_exceeds (q ∷ qs) [] ps n i l h = absurd (omega arith)
strictly_exceeds (q ∷ qs) (x ∷ hs) ps n zero l h = rw (lt-ltb x (impact_in ps q.term) h)
strictly_exceeds (q ∷ qs) (x ∷ hs) ps n (suc i) l h =
    rw (strictly_exceeds qs hs ps (omega arith) i (omega arith) h) (Bools.or-true (ltb x (impact_in ps q.term)))

-- a message exceeds thresholds exactly where it is strictly above one of them
pub exceeds_exactly : (qs : List Pair) (hs : List ℕ) (ps : List Pair) → length hs ≡ length qs → (exceeds qs hs ps ≡ true) ↔ Exceeds qs hs ps
exceeds_exactly qs hs ps n = (exceeds_strictly qs hs ps, λ x. strictly_exceeds qs hs ps n x.0 x.1 x.2)

module _ (qs : List Pair) (hs : List ℕ) (n : length hs ≡ length qs) where
  some_exceeds : (ms : List Message) → reached qs hs ms ≡ true → (m : Message) × In m ms × Exceeds qs hs m.pairs
  unfolding reached
  some_exceeds [] e = absurd (false≢true e)
  some_exceeds (m ∷ ms) e =
      ⊎_elim
      (λ here. (m, inl refl, exceeds_strictly qs hs m.pairs here))
      (λ there. let r = some_exceeds ms there in (r.0, inr r.1, r.2))
      (or_true (exceeds qs hs m.pairs) (reached qs hs ms) e)

  one_reaches : (ms : List Message) (m : Message) → In m ms → Exceeds qs hs m.pairs → reached qs hs ms ≡ true
  unfolding reached
  one_reaches [] m i x = absurd i
  one_reaches (y ∷ ms) m (inl e) x = rw ((exceeds_exactly qs hs y.pairs n).1 (subst (λ (m : Message). Exceeds qs hs m.pairs) e x))
  one_reaches (y ∷ ms) m (inr i) x = rw (one_reaches ms m i x) (Bools.or-true (exceeds qs hs y.pairs))

  -- a query is reached exactly where one of the messages is strictly above one of its thresholds
  pub reached_exactly : (ms : List Message) → (reached qs hs ms ≡ true) ↔ ((m : Message) × In m ms × Exceeds qs hs m.pairs)
  reached_exactly ms = (some_exceeds ms, λ x. one_reaches ms x.0 x.1 x.2)

pub sum_zero : (qs : List Pair) (hs : List ℕ) → ((i : ℕ) → get_or hs i 0 ≡ 0) → threshold_sum qs hs ≡ 0
unfolding threshold_sum
sum_zero [] hs z = refl
sum_zero (q ∷ qs) [] z = refl
sum_zero (q ∷ qs) (h ∷ hs) z = omega (arith, ap (λ n. q.amount * n) (z 0), mul-zero q.amount, sum_zero qs hs (λ i. z (suc i)))

-- ---- the list rests on what scores above s

abbrev above : ℕ → Entry → Bool
above s e = ltb s e.score

module _ (q : Query) where
  abbrev scored : List Message → List Entry
  scored ms = entries (score q.terms) ms

  abbrev first : List Entry → List Entry
  first es = take q.k (sort ahead es)

  module _ (s : ℕ) where
    best_above : (es : List Entry) → q.k ≤ length (select (above s) es) → first es ≡ first (select (above s) es)
    best_above =
        best ahead (above s)
        (λ e x p n. omega (arith, ltb-true, ltb-false, le-leb, level_most x.of.urgency))
        (λ e x n p. omega (arith, ltb-true, ltb-false, lt-leb, level_most e.of.urgency))
        q.k

    -- of a full list whose last score is above s all are
    full_above : (ms : List Message) → length (ranking q ms) ≡ q.k → s < last_score (ranking q ms) → q.k ≤ length (select (above s) (scored ms))
    unfolding ranking
    full_above ms full h =
        let listed : select (above s) (ranking q ms) ≡ ranking q ms =
        select_all (above s) (ranking q ms) (λ e m. omega (arith, ranking_last q ms e m, lt-ltb)) in
        omega (arith, ap length listed, select_take (above s) q.k (sort ahead (scored ms)), count_sort ahead (above s) (scored ms))

    scoring_above : s ≡ 0 → (ms : List Message) → select (above s) (scored ms) ≡ scored ms
    scoring_above z ms =
        select_all (above s) (scored ms) (λ x m. let i = select_in scoring x (map (entry (score q.terms)) ms) m in omega (arith, ltb-true, lt-ltb))

-- A list of up to k that no message of a score of s or less could change.
abbrev pub Safe : ℕ → ℕ → List Entry → Type 0
Safe s k es = (s ≡ 0) ⊎ ((length es ≡ k) × (s < last_score es))

module _ (q : Query) (s : ℕ) (ms ms' : List Message) (e : select (above s) (scored q ms) ≡ select (above s) (scored q ms')) where
  ranking_agrees : Safe s q.k (ranking q ms) → ranking q ms ≡ ranking q ms'
  unfolding ranking
  ranking_agrees (inl z) = ap (first q) (sym (scoring_above q s z ms) ∙ e ∙ scoring_above q s z ms')
  ranking_agrees (inr f) =
      let n = full_above q s ms f.0 f.1 in
      best_above q s (scored q ms) n ∙ ap (first q) e ∙ sym (best_above q s (scored q ms') (subst (λ es. q.k ≤ length es) e n))

-- ---- messages that score above s

abbrev high : Query → ℕ → Message → Bool
high q s m = ltb s (score q.terms m.pairs)

scored_above : (q : Query) (s : ℕ) (ms : List Message) → select (above s) (scored q ms) ≡ map (entry (score q.terms)) (select (high q s) ms)
scored_above q s ms =
    select_select (above s) scoring (λ x p. omega (arith, ltb-true, lt-ltb)) (map (entry (score q.terms)) ms)
    ∙ select_map (entry (score q.terms)) (above s) ms

-- ---- candidates

-- messages among which all candidates are
module _ (q : Query) (hs : List ℕ) (one_each : length hs ≡ length q.terms) (test : Message → Bool)
    (ms : List Message) (covers : (m : Message) → In m ms → exceeds q.terms hs m.pairs ≡ true → test m ≡ true) where
  abbrev those : List Message
  those = select test ms

  abbrev sum : ℕ
  sum = threshold_sum q.terms hs

  -- whoever scores above the sum is a candidate
  candidates_above : select (above sum) (scored q those) ≡ select (above sum) (scored q ms)
  candidates_above =
      scored_above q sum those
      ∙ ap (map (entry (score q.terms)))
      (select_among (high q sum) test ms (λ m i p. covers m i (above_exceeds q.terms hs m.pairs one_each (omega (arith, ltb-true)))))
      ∙ sym (scored_above q sum ms)

  -- ranking them is enough, where their list is safe ..
  pub those_enough : Safe sum q.k (ranking q those) → ranking q those ≡ ranking q ms
  those_enough = ranking_agrees q sum those ms candidates_above

  -- .. or the list of all is
  pub those_keep : Safe sum q.k (ranking q ms) → ranking q those ≡ ranking q ms
  those_keep safe = sym (ranking_agrees q sum ms those (sym candidates_above) safe)

-- the same by a test that every candidate passes, of whatever messages
module _ (q : Query) (hs : List ℕ) (one_each : length hs ≡ length q.terms) (test : Message → Bool)
    (covers : (m : Message) → exceeds q.terms hs m.pairs ≡ true → test m ≡ true) (ms : List Message) where
  pub candidates_enough : Safe (threshold_sum q.terms hs) q.k (ranking q (select test ms)) → ranking q (select test ms) ≡ ranking q ms
  candidates_enough = those_enough q hs one_each test ms (λ m i. covers m)

  pub candidates_keep : Safe (threshold_sum q.terms hs) q.k (ranking q ms) → ranking q (select test ms) ≡ ranking q ms
  candidates_keep = those_keep q hs one_each test ms (λ m i. covers m)

-- ---- settled queries

settled_safe : (q : Query) (ms : List Message) (kept : Kept) → Settled q ms kept → Safe (threshold_sum q.terms kept.thresholds) q.k (ranking q ms)
settled_safe q ms kept s =
    ⊎_elim (λ e. inr (e, omega (arith, (s.full e).safe))) (λ l. inl (sum_zero q.terms kept.thresholds (s.short l))) (eq-or-lt_of_le (ranking_length q ms))

-- the same ranking, beside its candidates
pub settled_again : (q : Query) (ms ms' : List Message) (kept : Kept) (cs : List ℕ) → Settled q ms kept → ranking q ms ≡ ranking q ms'
    → cs ≡ serials (candidates q.terms kept.thresholds ms') → Settled q ms' (record { thresholds = kept.thresholds; candidates = cs; list = kept.list })
settled_again q ms ms' kept cs s e c =
    let hs = kept.thresholds in
    record {
      one_each = s.one_each;
      in_scale = s.in_scale;
      ranked = s.ranked ∙ ap lines e;
      above = c;
      full = subst (λ l. length l ≡ q.k → Tight q.terms hs (last_score l)) e s.full;
      short = subst (λ l. length l < q.k → (i : ℕ) → get_or hs i 0 ≡ 0) e s.short;
    }

-- messages with the same candidates have the same ranking
pub ranking_same : (q : Query) (ms ms' : List Message) (kept : Kept) → Settled q ms kept
    → candidates q.terms kept.thresholds ms ≡ candidates q.terms kept.thresholds ms' → ranking q ms ≡ ranking q ms'
ranking_same q ms ms' kept s c =
    let hs = kept.thresholds in
    let safe = settled_safe q ms kept s in
    let exceeding : Message → Bool = λ m. exceeds q.terms hs m.pairs in
    let same : ranking q ms ≡ ranking q (candidates q.terms hs ms') = sym (candidates_keep q hs s.one_each exceeding (λ m x. x) ms safe) ∙ ap (ranking q) c in
    let safe' = subst (Safe (threshold_sum q.terms hs) q.k) same safe in
    same ∙ candidates_enough q hs s.one_each exceeding (λ m x. x) ms' safe'

pub settled_same : (q : Query) (ms ms' : List Message) (kept : Kept) → Settled q ms kept
    → candidates q.terms kept.thresholds ms ≡ candidates q.terms kept.thresholds ms' → Settled q ms' kept
settled_same q ms ms' kept s c = settled_again q ms ms' kept kept.candidates s (ranking_same q ms ms' kept s c) (s.above ∙ ap serials c)

unreached : (qs : List Pair) (hs : List ℕ) (ms : List Message) → reached qs hs ms ≡ false → (m : Message) → In m ms → exceeds qs hs m.pairs ≡ false
unfolding reached
unreached qs hs [] e m i = absurd i
unreached qs hs (x ∷ ms) e m i =
    let d = or_false (exceeds qs hs x.pairs) (reached qs hs ms) e in
    ⊎_elim (λ p. rw p d.0) (λ p. unreached qs hs ms d.1 m p) i

-- a change of the window that doesn't reach the query leaves its candidates
pub same_candidates : (qs : List Pair) (hs : List ℕ) {all gone stay : List Message} (come : List Message) → Split all gone stay
    → reached qs hs (gone ++ come) ≡ false → candidates qs hs all ≡ candidates qs hs (stay ++ come)
same_candidates qs hs {gone = gone} come split e =
    let low = unreached qs hs (gone ++ come) e in
    select_change (λ m. exceeds qs hs m.pairs) come split (λ m i. low m (in_left m gone come i)) (λ m i. low m (in_right m gone come i))

-- THE LAW: a settled query that a change of the window doesn't reach is settled after it, with nothing kept changed
pub skip : (q : Query) {all gone stay : List Message} (come : List Message) (kept : Kept) → Split all gone stay → Settled q all kept
    → reached q.terms kept.thresholds (gone ++ come) ≡ false → Settled q (stay ++ come) kept
skip q {all} {stay = stay} come kept split s e =
    settled_same q all (stay ++ come) kept s (same_candidates q.terms kept.thresholds come split e)
