-- From rows of the window to the postings of paper: the list and the number of postings read are those of paper's search. Assumes nothing.
use Prim.Native.Nat.{ℕ, zero, suc, ◌*◌, ◌≤◌, ◌<◌}
use native.Mathlib.Nat.{mul-le-mul, eq-or-lt_of_le}
use native.Mathlib.Omega.{arith}
use mathlib.Core.Path.{◌≡◌, refl, sym, ap, ◌∙◌, subst}
use mathlib.Core.Bool.{Bool, true, false}
use mathlib.Core.Logic.{⊎_elim}
use mathlib.Core.List.{List, [], ◌∷◌, map, map-map}
use lib.ListN.{length, get_or, take, drop, replicate, length-replicate, length-map, length-drop, get_or-map, get_or-eq_default}
use lib.Seq.{length-take-le, get_or-take, get_or-drop, ext_get_or}
use lib.Dec.{eqb, leb, ltb}
use borrow.Author.Tests.{ltb-true}
use Rattle.paper.specs.Frame.{Pair, most_terms}
use Rattle.paper.specs.Impact.{top, squares, count_of, impact_in}
use Rattle.paper.specs.Layout.{slots}
use Rattle.paper.specs.Order.{In, Ordered}
use Rattle.paper.specs.Sort.{select, sort}
use Rattle.paper.specs.Window.{Message}
use Rattle.paper.specs.Rank as Rank
use Rattle.paper.specs.Rank.{Entry, entry, scoring, ranking, postings}
use Rattle.paper.specs.Threshold.{term_at, weight_at, last_score}
use Rattle.paper.specs.Search.{count_in, postings_of, search}
use Rattle.paper.specs.Sound.{Messages, Terms, Distinct}
use Rattle.paper.proofs.Tests.{by_bool}
use Rattle.paper.proofs.ImpactLaws.{impact_most}
use Rattle.paper.proofs.Steps.{weighed, steps}
use Rattle.paper.proofs.SortLaws.{select_all, select_select, select_map, inserts_map, from_map}
use Rattle.paper.proofs.RankLaws.{ranking_length}
use Rattle.paper.proofs.SearchLaws.{search_list, search_short, search_full, posting_of, postings_falling, postings_positive}
use Rattle.impact.specs.Cell.{lookup}
use Rattle.impact.proofs.CellLaws.{lookup_cells}
use Rattle.rank.specs.declared.Ranked.{Ranked}
use Rattle.rank.specs.Listing.{keyed, keyed_of, Empty}
use Rattle.rank.specs.Weights.{weight_limit}
use Rattle.window.specs.Slot.{Slot, slot, stored, ring, live}
use Rattle.candidates.specs.declared.query.Query.{Query}
use Rattle.candidates.specs.Post.{Rising, grows}
use Rattle.candidates.specs.Rows.{Known, Having, Gathered, Rows, RankedRows}
use Rattle.candidates.proofs.RowLaws.{having_live, having_grows}
use Rattle.candidates.proofs.TermLaws.{side_at}
use Rattle.query.specs.Post.{Is, Over}
use Rattle.query.proofs.QueryLaws.{weight_range}
use Rattle.query.proofs.SettleLaws.{lt_or_ge, Sixteen, count_is, last_is, last_positive, listed_is}
use Rattle.search.specs.Cut.{height, up_to, over, sum_at, read_at}
use Rattle.search.specs.Post.{Fit, Columns, column, sum_by, read_by, height_limit, ReadFor}
use Rattle.search.proofs.SumLaws.{over_positive, over_sort, up_to_positive, up_to_sort, sum_agree, read_agree, read_none, cut_none}
use Rattle.search.proofs.CutLaws.{cut_steps}

-- ---- lists that are the same to every cut

record Alike (a b : List ℕ) : Type 0 where
  up_to_same : (c : ℕ) → up_to c a ≡ up_to c b
  over_it : (c : ℕ) → over c a ≡ over c b

alike_same : {a b : List ℕ} → a ≡ b → Alike a b
alike_same e = record { up_to_same = λ c. ap (up_to c) e; over_it = λ c. ap (over c) e }

alike_then : {a b d : List ℕ} → Alike a b → Alike b d → Alike a d
alike_then x y = record { up_to_same = λ c. x.up_to_same c ∙ y.up_to_same c; over_it = λ c. x.over_it c ∙ y.over_it c }

alike_back : {a b : List ℕ} → Alike a b → Alike b a
alike_back x = record { up_to_same = λ c. sym (x.up_to_same c); over_it = λ c. sym (x.over_it c) }

-- 0 left out, and another order
alike_positive : (l : List ℕ) → Alike (select (ltb 0) l) l
alike_positive l = record { up_to_same = λ c. up_to_positive c l; over_it = λ c. over_positive c l }

alike_sort : (ahead : ℕ → ℕ → Bool) (l : List ℕ) → Alike (sort ahead l) l
alike_sort ahead l = record { up_to_same = λ c. up_to_sort c ahead l; over_it = λ c. over_sort c ahead l }

-- those left out that have 0
alike_select : (f : ℕ → ℕ) (test : ℕ → Bool) → ((j : ℕ) → test j ≡ false → f j ≡ 0) → (js : List ℕ) → Alike (map f (select test js)) (map f js)
alike_select f test none js =
    alike_then (alike_back (alike_positive (map f (select test js))))
    (alike_then (alike_same same) (alike_positive (map f js)))
  where
    looser : (j : ℕ) → ltb 0 (f j) ≡ true → test j ≡ true
    looser j e = by_bool (test j) (λ t. t) (λ z. absurd (omega (arith, none j z, ltb-true 0 (f j) e)))

    same : select (ltb 0) (map f (select test js)) ≡ select (ltb 0) (map f js)
    same =
        select_map f (ltb 0) (select test js)
        ∙ ap (map f) (select_select (λ j. ltb 0 (f j)) test looser js)
        ∙ sym (select_map f (ltb 0) js)

-- ---- the impacts of messages in a term, and its postings

abbrev impacts_of : List Message → ℕ → List ℕ
impacts_of ms t = map (λ m. impact_in m.pairs t) ms

abbrev scores : List Entry → List ℕ
scores es = map (λ e. e.score) es

alike_postings : (t : ℕ) (ms : List Message) → Alike (scores (postings t ms)) (impacts_of ms t)
unfolding postings
alike_postings t ms =
    alike_then (alike_same (sym (inserts_map of (λ a b. leb b a) [] (select scoring all))))
    (alike_then (alike_sort (λ a b. leb b a) (scores (select scoring all)))
    (alike_then (alike_same (sym (select_map of (ltb 0) all)))
    (alike_then (alike_positive (scores all)) (alike_same (map-map of (entry measure) ms)))))
  where
    of : Entry → ℕ
    of e = e.score

    measure : List Pair → ℕ
    measure ps = impact_in ps t

    all : List Entry
    all = map (entry measure) ms

impact_in_most : (ps : List Pair) (t : ℕ) → impact_in ps t ≤ top
unfolding impact_in
impact_in_most ps t =
    by_bool (eqb (count_of t ps) 0) (λ e. rw e (omega arith)) (λ e. rw e (impact_most (count_of t ps) (squares ps)))

postings_most : (t : ℕ) (ms : List Message) (v : ℕ) → In v (scores (postings t ms)) → v ≤ top
postings_most t ms v i =
    let r = from_map (λ (e : Entry). e.score) v (postings t ms) i in
    omega (arith, r.2, (posting_of t ms r.0 r.1).1, impact_in_most r.0.of.pairs t)

-- ---- rows of the window

-- a slot that isn't live has no impact
live_having : {w : List ℕ} {r : Query} (js : List ℕ) → Having w r js (live w js)
live_having {w} {r} js =
    let h = having_live {w = w} {q = r} (λ j. true) js in
    record {
      test = h.test;
      kept = sym (all (live w js)) ∙ h.kept ∙ ap (select h.test) (all js);
      silent = h.silent;
    }
  where
    all : (l : List ℕ) → select (λ j. true) l ≡ l
    all l = select_all (λ j. true) l (λ j i. refl)

map_at : (f : ℕ → ℕ) (l : List ℕ) (i : ℕ) → i < length l → get_or (map f l) i 0 ≡ f (get_or l i 0)
map_at f [] i h = absurd (omega arith)
map_at f (x ∷ l) zero h = refl
map_at f (x ∷ l) (suc i) h = map_at f l i (omega arith)

module _ (w : List ℕ) (r : Query) (rising : Rising r) (known : Known r) (p : ℕ) (l : p < r.n) where
  abbrev impact : ℕ → ℕ
  impact j = lookup (get_or r.terms p 0) (slot w j).cells

  alike_having : {js js' : List ℕ} → Having w r js js' → Alike (map impact js') (map impact js)
  alike_having {js} h =
      alike_then (alike_same (ap (map impact) h.kept)) (alike_select impact h.test (λ j e. h.silent rising known j e p l) js)

  -- a column has the impacts of the slots that were looked at
  column_are : {js rows cols : List ℕ} → Rows w js r rows → Columns rows (length js) r.n cols → r.n ≤ most_terms → length js ≤ slots
      → column cols (length js) p ≡ map impact js
  column_are {js} {rows} {cols} looked c few room =
      ext_get_or 0 (column cols (length js) p) (map impact js) (size ∙ sym (length-map js impact))
      (λ i h. let k : i < length js = omega (arith, size) in
      get_or-take (length js) (drop (slots * p) cols) i 0 k
      ∙ get_or-drop (slots * p) cols i 0
      ∙ c.are p i l k
      ∙ looked.right rising known i k p l
      ∙ sym (map_at impact js i k))
    where
      size : length (column cols (length js) p) ≡ length js
      size = length-take-le (length js) (drop (slots * p) cols) (simp length-drop (omega (arith, c.long)))

  -- that of the slots picked is that of the live ones
  alike_live : {js all rows cols : List ℕ} → Having w r all js → Rows w js r rows → Columns rows (length js) r.n cols → r.n ≤ most_terms → length js ≤ slots
      → Alike (column cols (length js) p) (map impact (live w all))
  alike_live {all = all} picked looked c few room =
      alike_then (alike_same (column_are looked c few room)) (alike_then (alike_having picked) (alike_back (alike_having (live_having all))))

-- the impacts of slots that hold messages are theirs
held_impacts : (w js : List ℕ) (ms : List Message) (t : ℕ) → Messages ms → map (slot w) js ≡ map stored ms
    → map (λ j. lookup t (slot w j).cells) js ≡ impacts_of ms t
unfolding stored
held_impacts w js ms t v e =
    sym (map-map (λ (x : Slot). lookup t x.cells) (slot w) js)
    ∙ ap (map (λ (x : Slot). lookup t x.cells)) e
    ∙ stored_impacts ms v
  where
    stored_impacts : (ms : List Message) → Messages ms → map (λ (x : Slot). lookup t x.cells) (map stored ms) ≡ impacts_of ms t
    stored_impacts [] v = refl
    stored_impacts (m ∷ ms) v = rw (lookup_cells m.pairs v.1 t, stored_impacts ms v.2)

-- as many slots are picked as are said to be
pub picked_size : {w : List ℕ} {r : Query} {first count : ℕ} {picked : List ℕ} {m : ℕ} → Gathered w r first count picked m → m ≤ slots
    → length (take m picked) ≡ m
picked_size {picked = picked} {m = m} g l = length-take-le m picked (omega (arith, g.long))

-- ---- the query's terms and weights

module _ {r : Query} {q : Rank.Query} (is : Is r q) where
  at_place : (p : ℕ) → p < r.n → (term_at q.terms p ≡ get_or r.terms p 0) × (weight_at q.terms p ≡ get_or r.weights p 0)
  at_place p l =
      let s = side_at r.n r.terms r.weights p (omega (arith, ap length is.terms, is.n)) in
      (ap (λ (qs : List Pair). term_at qs p) (sym is.terms) ∙ s.1, ap (λ (qs : List Pair). weight_at qs p) (sym is.terms) ∙ s.2)

  -- a query of a frame is within its ranges
  pub fit_by : Terms q → Fit r
  fit_by v = record {
    k_most = omega (arith, is.k, v.k_most);
    n_most = omega (arith, is.n, v.terms.at_most);
    weights_least = λ p l. omega (arith, (at_place p l).1, (weighs p l).0);
    weights_most = λ p l. omega (arith, (at_place p l).1, (weighs p l).1);
  }
    where
      weighs : (p : ℕ) → p < r.n → (1 ≤ weight_at q.terms p) × (weight_at q.terms p < weight_limit)
      weighs p l = weight_range q.terms v.terms.fit v.terms.above_zero p (omega (arith, is.n))

count_map : {A B : Type 0} (f : A → B) (ls : List (List A)) → count_in (map (map f) ls) ≡ count_in ls
unfolding count_in
count_map f [] = refl
count_map f (l ∷ ls) = omega (arith, length-map l f, count_map f ls)

-- the lists of impacts of the postings, by the places of the terms
module _ (ms : List Message) where
  abbrev lists : List Pair → List (List ℕ)
  lists qs = map scores (postings_of qs ms)

  list_at : (qs : List Pair) (p : ℕ) → p < length qs → get_or (lists qs) p [] ≡ scores (postings (term_at qs p) ms)
  unfolding term_at
  list_at [] p l = absurd (omega arith)
  list_at (x ∷ qs) zero l = refl
  list_at (x ∷ qs) (suc p) l = list_at qs p (omega arith)

  -- what holds of all postings, and where there is no term
  each_list : (P : List ℕ → Type 0) → P [] → ((t : ℕ) → P (scores (postings t ms))) → (qs : List Pair) (p : ℕ) → P (get_or (lists qs) p [])
  each_list P none all [] p = none
  each_list P none all (x ∷ qs) zero = all x.term
  each_list P none all (x ∷ qs) (suc p) = each_list P none all qs p

-- ---- the search of the window

module _ {w rows js : List ℕ} {first count : ℕ} {r : Query} {list : Ranked} (picked : Having w r (ring first count) js) (looked : Rows w js r rows)
    (by : RankedRows w js r rows list) {ms : List Message} {q : Rank.Query} (over : Over w first count ms) (distinct : Distinct ms)
    (terms : Terms q) (is : Is r q) where
  listed : keyed_of list ≡ keyed (ranking q ms)
  listed =
      by.right looked is.rising is.known
      ∙ having_grows picked is.rising is.known r.k
      ∙ sym (having_grows (live_having {r = r} (ring first count)) is.rising is.known r.k)
      ∙ listed_is w (live w (ring first count)) ms is over.shows over.valid

  pub found_list : keyed_of list ≡ keyed (search q ms).list
  found_list = listed ∙ ap keyed (sym (search_list q ms terms distinct))

  -- the postings read, by columns of what was looked at
  module _ (n : ℕ) {cols : List ℕ} (fit : Fit r) (long : Sixteen list) (room : length js ≤ slots) (columns : Columns rows (length js) r.n cols)
      (read : ReadFor cols (length js) r list n) where
    -- a column is the impacts of a term's postings
    alike : (p : ℕ) → p < r.n → Alike (column cols (length js) p) (get_or (lists ms q.terms) p [])
    alike p l =
        let t = get_or r.terms p 0 in
        alike_then (alike_live w r is.rising is.known p l picked looked columns fit.n_most room)
        (alike_then (alike_same (held_impacts w (live w (ring first count)) ms t over.valid over.shows))
        (alike_then (alike_back (alike_postings t ms))
        (alike_same (ap (λ (t : ℕ). scores (postings t ms)) (sym (at_place is p l).0) ∙ sym (list_at ms q.terms p (omega (arith, is.n)))))))

    abbrev weights : List ℕ
    weights = map (λ x. x.amount) q.terms

    abbrev impacts : ℕ → List ℕ
    impacts p = get_or (lists ms q.terms) p []

    same_size : r.n ≡ length weights
    same_size = is.n ∙ sym (length-map q.terms (λ x. x.amount))

    same_weight : (p : ℕ) → p < r.n → get_or r.weights p 0 ≡ get_or weights p 0
    unfolding weight_at
    same_weight p l = sym (at_place is p l).1 ∙ sym (get_or-map (λ x. x.amount) q.terms p (record { term = 0; amount = 0 }))

    sums : (x : ℕ) → sum_by cols (length js) r x ≡ sum_at (length weights) weights impacts x
    sums x = rw (← same_size) (sum_agree r.n r.weights weights (column cols (length js)) impacts same_weight x (λ p l c. (alike p l).up_to_same c))

    reads : (x : ℕ) → read_by cols (length js) r x ≡ read_at (length weights) weights impacts x
    reads x = rw (← same_size) (read_agree r.n r.weights weights (column cols (length js)) impacts same_weight x (λ p l c. (alike p l).over_it c))

    same_lists : length (lists ms q.terms) ≡ length weights
    same_lists =
        length-map (postings_of q.terms ms) scores
        ∙ length-map q.terms (λ x. postings x.term ms)
        ∙ sym (length-map q.terms (λ x. x.amount))

    positive : (p v : ℕ) → In v (impacts p) → 0 < v
    positive p = each_list ms (λ l. (v : ℕ) → In v l → 0 < v) (λ v i. absurd i) (λ t. postings_positive t ms) q.terms p

    counted : list.count ≡ length (ranking q ms)
    counted = count_is (ranking q ms) long listed

    -- a full list: the steps end at the cut
    full_read : length (ranking q ms) ≡ q.k → n ≡ (search q ms).read
    full_read full =
        let f = read.full (counted ∙ full ∙ sym is.k) in
        let last = last_is (ranking q ms) long listed in
        let some = last_positive q ms (omega (arith, terms.k_least)) in
        f.2
        ∙ reads f.0
        ∙ sym (cut_steps weights (lists ms q.terms) (last_score (ranking q ms)) f.0 height_limit same_lists few heavy falls positive low
        (omega (arith, last, f.1.below (omega (arith, last)), sums f.0))
        (λ z h l. omega (arith, last, f.1.above z h l, sums z)))
        ∙ ap (λ (m : ℕ). steps m (last_score (ranking q ms)) (weighed weights (lists ms q.terms))) (count_map (λ (e : Entry). e.score) (postings_of q.terms ms))
        ∙ sym (search_full q ms terms distinct full)
      where
        few : length (lists ms q.terms) ≤ most_terms
        few = omega (arith, same_lists, same_size, fit.n_most)

        heavy : (p : ℕ) → p < length weights → 1 ≤ get_or weights p 0
        heavy p l = omega (arith, same_weight p (omega (arith, same_size)), fit.weights_least p (omega (arith, same_size)))

        falls : (p : ℕ) → Ordered (λ (a b : ℕ). b ≤ a) (impacts p)
        falls p = each_list ms (Ordered (λ (a b : ℕ). b ≤ a)) tt (λ t. postings_falling t ms) q.terms p

        low : (p v : ℕ) → In v (impacts p) → height p (get_or weights p 0 * v) < height_limit
        low p v i =
            let most = each_list ms (λ l. (v : ℕ) → In v l → v ≤ top) (λ v i. absurd i) (λ t. postings_most t ms) q.terms p v i in
            ⊎_elim
            (λ l. let w : get_or weights p 0 ≤ 15 = omega (arith, same_weight p l, fit.weights_most p l) in
            omega (arith, mul-le-mul w most))
            (λ l. absurd (subst (In v) (get_or-eq_default (lists ms q.terms) [] (omega (arith, same_lists, same_size))) i))
            (lt_or_ge p r.n)

    short_read : length (ranking q ms) < q.k → n ≡ (search q ms).read
    short_read less =
        read.short (λ e. omega (arith, counted, is.k))
        ∙ reads 0
        ∙ cut_none weights (lists ms q.terms) same_lists positive
        ∙ count_map (λ (e : Entry). e.score) (postings_of q.terms ms)
        ∙ sym (search_short q ms terms distinct less)

    pub found_read : n ≡ (search q ms).read
    found_read = ⊎_elim full_read short_read (eq-or-lt_of_le (ranking_length q ms))

-- where no message has one of the terms, nothing is listed and nothing read
pub none_found : {w : List ℕ} {first count : ℕ} {r : Query} {list : Ranked} {ms : List Message} {q : Rank.Query} → Having w r (ring first count) []
    → Over w first count ms → Distinct ms → Terms q → Is r q → Empty list → Sixteen list → (keyed_of list ≡ keyed (search q ms).list) × (0 ≡ (search q ms).read)
unfolding grows
none_found {w} {r = r} {list} picked over distinct terms is empty long =
    (found_list picked looked by over distinct terms is, found_read picked looked by over distinct terms is 0 (fit_by is terms) long (omega arith) columns read)
  where
    looked : Rows w [] r []
    looked = record { narrow = λ i. omega arith; right = λ rising known i l. absurd (omega arith) }

    by : RankedRows w [] r [] list
    by = record { within = omega (arith, empty.count); tidy = empty.tidy; right = λ _ rising known. empty.list }

    columns : Columns [] 0 r.n (replicate (most_terms * slots) 0)
    columns = record { long = length-replicate {A = ℕ} (most_terms * slots) 0; are = λ p i l m. absurd (omega arith) }

    read : ReadFor (replicate (most_terms * slots) 0) 0 r list 0
    read = record { full = λ e. absurd (omega (arith, empty.count, is.k, terms.k_least)); short = λ _. sym (read_none r.n r.weights 0) }
