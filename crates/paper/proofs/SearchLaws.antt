-- A search lists the ranking, and reads as many postings as the impacts alone say; it lists what registering would. Assumes nothing.
use Prim.Native.Nat.{ℕ, zero, suc, ◌+◌, ◌*◌, ◌≤◌, ◌<◌, min}
use native.Mathlib.Nat.{mul-pos, mul-zero}
use native.Mathlib.Omega.{arith}
use mathlib.Core.Path.{◌≡◌, refl, sym, ap, ◌∙◌, subst}
use mathlib.Core.Bool as Bools
use mathlib.Core.Bool.{Bool, true, false, false≢true}
use mathlib.Core.Logic.{◌⊎◌, inl, inr, ⊎_elim}
use mathlib.Core.List.{List, [], ◌∷◌, ◌++◌, map, append-nil}
use mathlib.Core.Option.{none, some}
use lib.ListN.{length, get_or, take, length-take, length-map}
use lib.Seq.{get_or-set_same}
use lib.Dec.{eqb, leb, ltb}
use borrow.Author.Tests.{leb-true, leb-false, le-leb, lt-leb, ltb-true, lt-ltb, eqb-true}
use Rattle.paper.specs.Frame.{Pair, numbers, positive}
use Rattle.paper.specs.Frame.Frame.{register}
use Rattle.paper.specs.Window.{Message, in_force, noting}
use Rattle.paper.specs.Impact.{impact_in, score_by, score}
use Rattle.paper.specs.Order.{In, Ordered}
use Rattle.paper.specs.Sort.{sort}
use Rattle.paper.specs.Rank.{Query, Entry, ahead, ahead_posting, entry, scoring, entries, ranking, postings, lines}
use Rattle.paper.specs.Threshold.{threshold_sum, exceeds_by, exceeds, last_score}
use Rattle.paper.specs.Log.{Log, query_at, seen, has_serial, cancels, accept, list_of}
use Rattle.paper.specs.Sound.{Distinct, Terms, Sound}
use Rattle.paper.specs.Search.{
  postings_of,
  count_in,
  next,
  products,
  highest,
  highest_at,
  next_at,
  without,
  messages_of,
  seen_by,
  ends,
  Outcome,
  search_on,
  search,
}
use Rattle.paper.proofs.Tests.{by_bool, and_true, or_true}
use Rattle.paper.proofs.SortLaws.{in_map, from_map, select_all, select_in, in_select, select_length, sort_in, in_sort, length_sort}
use Rattle.paper.proofs.LeadLaws.{Falling, falling_sort, has_serial_lem, other_serial, entries_select, entries_in_lem}
use Rattle.paper.proofs.LogLaws.{noting_none}
use Rattle.paper.proofs.ThresholdLaws.{Safe, those_enough, those_keep}
use Rattle.paper.proofs.Steps.{front, sum, weighed, steps}

-- ---- lists mapped

module _ {A B : Type 0} (f : A → B) where
  ordered_map : (R : B → B → Type 0) (l : List A) → Ordered (λ x y. R (f x) (f y)) l → Ordered R (map f l)
  ordered_map R [] o = tt
  ordered_map R (x ∷ xs) o =
      ((λ b i. let r = from_map f b xs i in subst (R (f x)) (sym r.2) (o.0 r.0 r.1)), ordered_map R xs o.1)

  without_map : (p : ℕ) (ls : List (List A)) → without p (map (map f) ls) ≡ map (map f) (without p ls)
  unfolding without
  without_map p [] = refl
  without_map zero ([] ∷ ls) = refl
  without_map zero ((x ∷ xs) ∷ ls) = refl
  without_map (suc p) (l ∷ ls) = ap (λ (r : List (List B)). map f l ∷ r) (without_map p ls)

-- ---- a term's postings

abbrev impact_of : ℕ → List Pair → ℕ
impact_of t ps = impact_in ps t

falls : (t : ℕ) (ms : List Message) → Falling (λ (e : Entry). e.score) (postings t ms)
unfolding postings
falls t ms = falling_sort (λ (e : Entry). e.score) (entries (impact_of t) ms)

-- a posting is a message's with its impact, above 0
pub posting_of : (t : ℕ) (ms : List Message) (x : Entry) → In x (postings t ms) → In x.of ms × (x.score ≡ impact_in x.of.pairs t) × (0 < x.score)
unfolding postings
posting_of t ms x i = entries_in_lem (impact_of t) ms x (sort_in ahead_posting x (entries (impact_of t) ms) i)

-- every message that has the term has one
has_posting : (t : ℕ) (ms : List Message) (m : Message) → In m ms → 0 < impact_in m.pairs t → In (entry (impact_of t) m) (postings t ms)
unfolding postings
has_posting t ms m i h =
    let e : Entry = entry (impact_of t) m in
    in_sort ahead_posting e (entries (impact_of t) ms)
    (in_select scoring e (map (entry (impact_of t)) ms) (in_map (entry (impact_of t)) m ms i) (lt-ltb 0 (impact_in m.pairs t) h))

pub postings_falling : (t : ℕ) (ms : List Message) → Ordered (λ (a b : ℕ). b ≤ a) (map (λ e. e.score) (postings t ms))
postings_falling t ms = ordered_map (λ (e : Entry). e.score) (λ (a b : ℕ). b ≤ a) (postings t ms) (falls t ms)

pub postings_positive : (t : ℕ) (ms : List Message) (v : ℕ) → In v (map (λ e. e.score) (postings t ms)) → 0 < v
postings_positive t ms v i =
    let r = from_map (λ (e : Entry). e.score) v (postings t ms) i in
    omega (arith, r.2, (posting_of t ms r.0 r.1).2)

-- ---- what is left of the postings

-- What is left of a term's postings once the postings es are read: every message that has the term is there or was seen.
record Left (ms : List Message) (es : List Entry) (t : ℕ) (l : List Entry) : Type 0 where
  fall : Falling (λ (e : Entry). e.score) l
  are : (x : Entry) → In x l → In x.of ms × (x.score ≡ impact_in x.of.pairs t) × (0 < x.score)
  all : (m : Message) → In m ms → 0 < impact_in m.pairs t → In (entry (impact_of t) m) l ⊎ (has_serial m.serial (messages_of es) ≡ true)

-- for each term its list
abbrev AllLeft : List Message → List Entry → List Pair → List (List Entry) → Type 0
AllLeft ms es [] [] = Unit {0}
AllLeft ms es [] (l ∷ left) = ⊥
AllLeft ms es (p ∷ qs) [] = ⊥
AllLeft ms es (p ∷ qs) (l ∷ left) = Left ms es p.term l × AllLeft ms es qs left

-- the first of falling postings is the highest
next_most : (l : List Entry) → Falling (λ (e : Entry). e.score) l → (x : Entry) → In x l → x.score ≤ next l
next_most [] o x i = absurd i
next_most (e ∷ l) o x (inl p) = omega (arith, ap (λ (y : Entry). y.score) p)
next_most (e ∷ l) o x (inr i) = o.0 x i

-- none left, no sum
none_left : (qs : List Pair) (left : List (List Entry)) → count_in left ≡ 0 → threshold_sum qs (map next left) ≡ 0
unfolding count_in threshold_sum
none_left [] left z = refl
none_left (p ∷ qs) [] z = refl
none_left (p ∷ qs) ([] ∷ left) z = omega (arith, mul-zero p.amount, none_left qs left (omega arith))
none_left (p ∷ qs) ((e ∷ l) ∷ left) z = absurd (omega arith)

module _ (ms : List Message) where
  -- at first
  left_first : (qs : List Pair) → AllLeft ms [] qs (postings_of qs ms)
  left_first [] = tt
  left_first (p ∷ qs) =
      let t : ℕ = p.term in
      (record { fall = falls t ms; are = posting_of t ms; all = λ m i h. inl (has_posting t ms m i h) }, left_first qs)

  module _ (es : List Entry) where
    one_each : (qs : List Pair) (left : List (List Entry)) → AllLeft ms es qs left → length (map next left) ≡ length qs
    one_each [] [] a = refl
    one_each [] (l ∷ left) a = absurd a
    one_each (p ∷ qs) [] a = absurd a
    one_each (p ∷ qs) (l ∷ left) a = ap suc (one_each qs left a.1)

    -- whoever has more than the next posting in some term was seen, as postings fall
    above_seen : (qs : List Pair) (left : List (List Entry)) → AllLeft ms es qs left → (m : Message) → In m ms
        → exceeds qs (map next left) m.pairs ≡ true → has_serial m.serial (messages_of es) ≡ true
    unfolding exceeds_by
    above_seen [] left a m i x = absurd (false≢true x)
    above_seen (p ∷ qs) [] a m i x = absurd a
    above_seen (p ∷ qs) (l ∷ left) a m i x =
        ⊎_elim
        (λ here. let above : next l < impact_in m.pairs p.term = ltb-true (next l) (impact_in m.pairs p.term) here in
        ⊎_elim
        (λ j. absurd (omega (arith, next_most l a.0.fall (entry (impact_of p.term) m) j)))
        (λ r. r)
        (a.0.all m i (omega arith)))
        (λ there. above_seen qs left a.1 m i there)
        (or_true (ltb (next l) (impact_in m.pairs p.term)) (exceeds qs (map next left) m.pairs) x)

    -- some left, a product above 0
    some_left : (qs : List Pair) (left : List (List Entry)) → AllLeft ms es qs left → positive qs ≡ true → 0 < count_in left
        → 0 < highest (products qs (map next left))
    unfolding count_in positive highest products
    some_left [] [] a w h = absurd (omega arith)
    some_left [] (l ∷ left) a w h = absurd a
    some_left (p ∷ qs) [] a w h = absurd a
    some_left (p ∷ qs) ([] ∷ left) a w h =
        let u = and_true (ltb 0 p.amount) (positive qs) w in
        omega (arith, some_left qs left a.1 u.1 (omega arith))
    some_left (p ∷ qs) ((e ∷ l) ∷ left) a w h =
        let u = and_true (ltb 0 p.amount) (positive qs) w in
        omega (arith, mul-pos (ltb-true 0 p.amount u.0) (a.0.are e (inl refl)).2)

-- ---- one more posting read

seen_again : (m : Message) (e : Entry) (es : List Entry) → has_serial m.serial (messages_of es) ≡ true → has_serial m.serial (messages_of (e ∷ es)) ≡ true
unfolding has_serial
seen_again m e es h = rw h (Bools.or-true (eqb e.of.serial m.serial))

module _ (ms : List Message) (es : List Entry) where
  -- of another term
  left_other : (e : Entry) (t : ℕ) (l : List Entry) → Left ms es t l → Left ms (e ∷ es) t l
  left_other e t l a = record {
    fall = a.fall;
    are = a.are;
    all = λ m i h. ⊎_elim (λ j. inl j) (λ s. inr (seen_again m e es s)) (a.all m i h);
  }

  left_others : (e : Entry) (qs : List Pair) (left : List (List Entry)) → AllLeft ms es qs left → AllLeft ms (e ∷ es) qs left
  left_others e [] [] a = tt
  left_others e [] (l ∷ left) a = absurd a
  left_others e (p ∷ qs) [] a = absurd a
  left_others e (p ∷ qs) (l ∷ left) a = (left_other e p.term l a.0, left_others e qs left a.1)

  -- of the term: its message is seen
  left_rest : (e : Entry) (t : ℕ) (l : List Entry) → Left ms es t (e ∷ l) → Left ms (e ∷ es) t l
  left_rest e t l a = record {
    fall = a.fall.1;
    are = λ x i. a.are x (inr i);
    all = λ m i h.
        ⊎_elim
        (⊎_elim (λ p. inr (has_serial_lem m (messages_of (e ∷ es)) (inl (ap (λ (y : Entry). y.of) p)))) (λ j. inl j))
        (λ s. inr (seen_again m e es s))
        (a.all m i h);
  }

  -- What is read at a place, and what is left then.
  record Step (qs : List Pair) (left : List (List Entry)) (at : ℕ) : Type 0 where
    one : Entry
    first : take 1 (get_or left at []) ≡ one ∷ []
    less : count_in left ≡ suc (count_in (without at left))
    then : AllLeft ms (one ∷ es) qs (without at left)
    among : In one.of ms
    scores : 0 < score qs one.of.pairs

  module _ (p : Pair) (qs : List Pair) (left : List (List Entry)) where
    step_here : (l : List Entry) → AllLeft ms es (p ∷ qs) (l ∷ left) → 0 < p.amount → 0 < p.amount * next l → Step (p ∷ qs) (l ∷ left) 0
    unfolding without count_in score_by
    step_here [] a w h = absurd (omega (arith, mul-zero p.amount))
    step_here (e ∷ l) a w h =
        let r = a.0.are e (inl refl) in
        let has : 0 < impact_in e.of.pairs p.term = omega (arith, r.1, r.2) in
        record {
          one = e;
          first = refl;
          less = omega arith;
          then = (left_rest e p.term l a.0, left_others e qs left a.1);
          among = r.0;
          scores = omega (arith, mul-pos w has);
        }

    step_later : (l : List Entry) (at : ℕ) → Left ms es p.term l → Step qs left at → Step (p ∷ qs) (l ∷ left) (suc at)
    unfolding without count_in score_by
    step_later l at a s = record {
      one = s.one;
      first = s.first;
      less = omega (arith, s.less);
      then = (left_other s.one p.term l a, s.then);
      among = s.among;
      scores = omega (arith, s.scores);
    }

    step_either : (l : List Entry) → AllLeft ms es (p ∷ qs) (l ∷ left) → positive (p ∷ qs) ≡ true → 0 < highest (products (p ∷ qs) (map next (l ∷ left)))
        → (positive qs ≡ true → 0 < highest (products qs (map next left)) → Step qs left (next_at qs left))
        → Step (p ∷ qs) (l ∷ left) (next_at (p ∷ qs) (l ∷ left))
    unfolding positive highest highest_at products
    step_either l a w h ih =
        let u = and_true (ltb 0 p.amount) (positive qs) w in
        by_bool (leb (highest (products qs (map next left))) (p.amount * next l))
        (λ e. rw e (step_here l a (ltb-true 0 p.amount u.0) (omega (arith, leb-true))))
        (λ e. rw e (step_later l (next_at qs left) a.0 (ih u.1 (omega (arith, leb-false)))))

  -- the highest product is that of a posting
  step : (qs : List Pair) (left : List (List Entry)) → AllLeft ms es qs left → positive qs ≡ true → 0 < highest (products qs (map next left))
      → Step qs left (next_at qs left)
  unfolding highest products
  step [] left a w h = absurd (omega arith)
  step (p ∷ qs) [] a w h = absurd a
  step (p ∷ qs) (l ∷ left) a w h = step_either p qs left l a w h (step qs left a.1)

-- ---- by the impacts alone

abbrev weights : List Pair → List ℕ
weights qs = map (λ p. p.amount) qs

abbrev impacts : List (List Entry) → List (List ℕ)
impacts left = map (map (λ e. e.score)) left

without_weighed : (ws : List ℕ) (p : ℕ) (ls : List (List ℕ)) → weighed ws (without p ls) ≡ without p (weighed ws ls)
unfolding weighed without
without_weighed [] p ls = refl
without_weighed (w ∷ ws) p [] = refl
without_weighed (w ∷ ws) zero ([] ∷ ls) = refl
without_weighed (w ∷ ws) zero ((v ∷ vs) ∷ ls) = refl
without_weighed (w ∷ ws) (suc p) (l ∷ ls) = ap (λ (r : List (List ℕ)). map (λ v. w * v) l ∷ r) (without_weighed ws p ls)

front_weighed : (w : ℕ) (l : List Entry) → front (map (λ v. w * v) (map (λ e. e.score) l)) ≡ w * next l
unfolding front
front_weighed w [] = sym (mul-zero w)
front_weighed w (e ∷ l) = refl

-- the lists of products
abbrev lists : List Pair → List (List Entry) → List (List ℕ)
lists qs left = weighed (weights qs) (impacts left)

-- the products of the next postings ..
fronts : (qs : List Pair) (left : List (List Entry)) → map front (lists qs left) ≡ products qs (map next left)
unfolding weighed products
fronts [] left = refl
fronts (p ∷ qs) [] = refl
fronts (p ∷ qs) (l ∷ left) = rw (front_weighed p.amount l, fronts qs left)

-- .. and their sum
sum_products : (qs : List Pair) (hs : List ℕ) → sum (products qs hs) ≡ threshold_sum qs hs
unfolding sum products threshold_sum
sum_products [] hs = refl
sum_products (p ∷ qs) [] = refl
sum_products (p ∷ qs) (h ∷ hs) = rw (sum_products qs hs)

module _ (qs : List Pair) (left : List (List Entry)) (n s : ℕ) where
  steps_end : ltb (threshold_sum qs (map next left)) s ≡ true → steps (suc n) s (lists qs left) ≡ 0
  unfolding steps
  steps_end e = rw (fronts qs left, sum_products qs (map next left), e)

  steps_on : ltb (threshold_sum qs (map next left)) s ≡ false → steps (suc n) s (lists qs left) ≡ suc (steps n s (lists qs (without (next_at qs left) left)))
  unfolding steps
  steps_on e =
      rw (fronts qs left, sum_products qs (map next left), e)
      (ap (λ (vss : List (List ℕ)). suc (steps n s vss))
      (sym (without_weighed (weights qs) (next_at qs left) (impacts left))
      ∙ ap (weighed (weights qs)) (without_map (λ (e : Entry). e.score) (next_at qs left) left)))

-- ---- messages by their serials

serial_in : (s : ℕ) (l : List Message) → has_serial s l ≡ true → (m : Message) × In m l × (m.serial ≡ s)
unfolding has_serial
serial_in s [] e = absurd (false≢true e)
serial_in s (m ∷ l) e =
    ⊎_elim
    (λ here. (m, inl refl, eqb-true m.serial s here))
    (λ there. let r = serial_in s l there in (r.0, inr r.1, r.2))
    (or_true (eqb m.serial s) (has_serial s l) e)

same_serial : (l : List Message) → Distinct l → (a b : Message) → In a l → In b l → a.serial ≡ b.serial → a ≡ b
same_serial [] d a b i j e = absurd i
same_serial (x ∷ l) d a b (inl p) (inl r) e = p ∙ sym r
same_serial (x ∷ l) d a b (inl p) (inr j) e = absurd (other_serial x.serial l d.0 b j (sym e ∙ ap (λ (y : Message). y.serial) p))
same_serial (x ∷ l) d a b (inr i) (inl r) e = absurd (other_serial x.serial l d.0 a i (e ∙ ap (λ (y : Message). y.serial) r))
same_serial (x ∷ l) d a b (inr i) (inr j) e = same_serial l d.1 a b i j e

-- ---- the search

ranking_size : (q : Query) (ms : List Message) → length (ranking q ms) ≡ min q.k (length (entries (score q.terms) ms))
unfolding ranking
ranking_size q ms =
    let all : List Entry = entries (score q.terms) ms in
    length-take q.k (sort ahead all) ∙ ap (min q.k) (length_sort ahead all)

-- What is true of a search after the postings es.
record Held (q : Query) (ms : List Message) (left : List (List Entry)) (es : List Entry) : Type 0 where
  parts : AllLeft ms es q.terms left
  reads : (x : Entry) → In x es → In x.of ms × (0 < score q.terms x.of.pairs)

module _ (q : Query) (ms : List Message) (terms : Terms q) (distinct : Distinct ms) where
  abbrev measure : List Pair → ℕ
  measure = score q.terms

  abbrev last : ℕ
  last = last_score (ranking q ms)

  module _ (left : List (List Entry)) (es : List Entry) (held : Held q ms left es) where
    abbrev test : Message → Bool
    test m = has_serial m.serial (messages_of es)

    abbrev met : List Message
    met = seen_by es ms

    abbrev bound : ℕ
    bound = threshold_sum q.terms (map next left)

    -- every message seen scores
    met_scores : (m : Message) → In m met → 0 < measure m.pairs
    met_scores m i =
        let r = select_in test m ms i in
        let x = serial_in m.serial (messages_of es) r.1 in
        let e = from_map (λ (e : Entry). e.of) x.0 es x.1 in
        let h = held.reads e.0 e.1 in
        let same : e.0.of ≡ m = same_serial ms distinct e.0.of m h.0 r.0 (ap (λ (y : Message). y.serial) (sym e.2) ∙ x.2) in
        subst (λ (y : Message). 0 < measure y.pairs) same h.1

    met_count : length (entries measure met) ≡ length met
    met_count =
        ap length
        (select_all scoring (map (entry measure) met)
        (λ x i. let r = from_map (entry measure) x met i in
        lt-ltb 0 x.score (omega (arith, ap (λ (y : Entry). y.score) r.2, met_scores r.0 r.1))))
        ∙ length-map met (entry measure)

    -- they are no more than score in all
    met_most : length met ≤ length (entries measure ms)
    met_most = omega (arith, met_count, ap length (entries_select measure test ms), select_length (λ (e : Entry). test e.of) (entries measure ms))

    each : length (map next left) ≡ length q.terms
    each = one_each ms es q.terms left held.parts

    covers : (m : Message) → In m ms → exceeds q.terms (map next left) m.pairs ≡ true → test m ≡ true
    covers = above_seen ms es q.terms left held.parts

    enough : Safe bound q.k (ranking q met) → ranking q met ≡ ranking q ms
    enough = those_enough q (map next left) each test ms covers

    -- where the search ends, the ranking of the messages seen is that of all
    at_end : ends q ms left es ≡ true → ranking q met ≡ ranking q ms
    unfolding ends
    at_end e =
        let u = and_true (leb q.k (length met)) (ltb bound (last_score (ranking q met))) e in
        enough (inr (omega (arith, leb-true q.k (length met) u.0, ranking_size q met, met_count), ltb-true bound (last_score (ranking q met)) u.1))

    -- a list that isn't full never ends it
    short_on : length (ranking q ms) < q.k → ends q ms left es ≡ false
    unfolding ends
    short_on h = rw (lt-leb q.k (length met) (omega (arith, ranking_size q ms, met_most)))

    -- a full one ends it by its last score
    full_ends : length (ranking q ms) ≡ q.k → ends q ms left es ≡ ltb bound last
    unfolding ends
    full_ends full =
        by_bool (ltb bound last)
        (λ h. let same : ranking q met ≡ ranking q ms = those_keep q (map next left) each test ms covers (inr (full, ltb-true bound last h)) in
        let many : q.k ≤ length met = omega (arith, ap length same, ranking_size q met, met_count) in
        rw (le-leb q.k (length met) many, same))
        (λ h. by_bool (ends q ms left es)
        (λ e. let u = and_true (leb q.k (length met)) (ltb bound (last_score (ranking q met))) e in
        e ∙ sym (ap (λ (l : List Entry). ltb bound (last_score l)) (sym (at_end e)) ∙ u.1))
        (λ e. e ∙ sym h))

  -- What a search with n left gives after the postings es.
  record Ended (n : ℕ) (left : List (List Entry)) (es : List Entry) (o : Outcome) : Type 0 where
    list : o.list ≡ ranking q ms
    short : length (ranking q ms) < q.k → o.read ≡ length es + n
    full : length (ranking q ms) ≡ q.k → o.read ≡ length es + steps n last (lists q.terms left)

  -- one more is read
  ended_later : (n : ℕ) (left : List (List Entry)) (es : List Entry) (e : Entry) (o : Outcome) → Held q ms left es → ends q ms left es ≡ false
      → Ended n (without (next_at q.terms left) left) (e ∷ es) o → Ended (suc n) left es o
  ended_later n left es e o held on r = record {
    list = r.list;
    short = λ h. omega (arith, r.short h);
    full = λ h. omega (arith, r.full h, steps_on q.terms left n last (sym (full_ends left es held h) ∙ on));
  }

  -- the search from there on, by how many are left
  searched : (n : ℕ) (left : List (List Entry)) (es : List Entry) → Held q ms left es → n ≡ count_in left → Ended n left es (search_on n q ms left es)
  unfolding search_on steps
  searched zero left es held z = record {
    list = enough left es held (inl (none_left q.terms left (sym z)));
    short = λ h. omega arith;
    full = λ h. omega arith;
  }
  searched (suc n) left es held z =
      by_bool (ends q ms left es)
      (λ e. rw e
      (record {
        list = at_end left es held e;
        short = λ h. absurd (false≢true (sym (short_on left es held h) ∙ e));
        full = λ h. omega (arith, steps_end q.terms left n last (sym (full_ends left es held h) ∙ e));
      }))
      (λ e. let w = terms.terms.above_zero in
      let s = step ms es q.terms left held.parts w (some_left ms es q.terms left held.parts w (omega arith)) in
      rw (e, s.first)
      (ended_later n left es s.one (search_on n q ms (without (next_at q.terms left) left) (s.one ∷ es)) held e
      (searched n (without (next_at q.terms left) left) (s.one ∷ es) (record {
        parts = s.then;
        reads = λ x i. ⊎_elim (λ p. subst (λ (y : Entry). In y.of ms × (0 < measure y.of.pairs)) (sym p) (s.among, s.scores)) (λ j. held.reads x j) i;
      }) (omega (arith, s.less)))))

  whole : Ended (count_in (postings_of q.terms ms)) (postings_of q.terms ms) [] (search q ms)
  unfolding search
  whole =
      searched (count_in (postings_of q.terms ms)) (postings_of q.terms ms) []
      (record { parts = left_first ms q.terms; reads = λ x i. absurd i }) refl

-- ---- the laws

-- a search lists the ranking
pub search_list : (q : Query) (ms : List Message) → Terms q → Distinct ms → (search q ms).list ≡ ranking q ms
search_list q ms terms distinct = (whole q ms terms distinct).list

-- where the list isn't full all postings are read
pub search_short : (q : Query) (ms : List Message) → Terms q → Distinct ms → length (ranking q ms) < q.k
    → (search q ms).read ≡ count_in (postings_of q.terms ms)
search_short q ms terms distinct h = omega (arith, (whole q ms terms distinct).short h)

-- where it is full they are read until the sum of the next ones is below the last score
pub search_full : (q : Query) (ms : List Message) → Terms q → Distinct ms → length (ranking q ms) ≡ q.k
    → (search q ms).read
    ≡ steps (count_in (postings_of q.terms ms)) (last_score (ranking q ms))
    (weighed (map (λ p. p.amount) q.terms) (map (map (λ e. e.score)) (postings_of q.terms ms)))
search_full q ms terms distinct h = omega (arith, (whole q ms terms distinct).full h)

-- a search lists what the query would once registered
pub as_registered : (log : Log) → Sound log → (n k : ℕ) (ps : List Pair) → n < numbers → Terms (record { k = k; terms = ps })
    → lines (search (record { k = k; terms = ps }) (seen log (record { k = k; terms = ps }))).list
    ≡ list_of (seen (accept log (register log.clock n k ps))) (query_at (accept log (register log.clock n k ps)) n)
unfolding accept seen
as_registered log sound n k ps l terms =
    let q : Query = record { k = k; terms = ps } in
    let f = register log.clock n k ps in
    let all : List Message = noting (cancels log f) log.messages in
    let same : all ++ [] ≡ log.messages = append-nil all ∙ noting_none (cancels log f) (λ j m. refl) log.messages in
    ap lines (search_list q (seen log q) terms sound.distinct)
    ∙ ap (λ (ms : List Message). lines (ranking q (in_force log.N log.T log.clock ms))) (sym same)
    ∙ ap (list_of (seen (accept log f))) (sym (get_or-set_same log.queries n (some q) none (omega (arith, sound.numbered))))
