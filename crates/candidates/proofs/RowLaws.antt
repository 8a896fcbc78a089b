-- Slots picked, the table of places, and rows of impacts: one law for each way that a turn goes. Assumes nothing.
use Prim.Native.Nat.{ℕ, zero, suc, ◌+◌, ◌-◌, ◌*◌, ◌≤◌, ◌<◌, suc-le-suc}
use native.Mathlib.Nat.{mul-zero, add-zero, not-suc-le-zero, eq-or-lt_of_le, le_of_suc-le-suc}
use native.Mathlib.Numerals.{add-one}
use native.Mathlib.Omega.{arith}
use mathlib.Core.Path.{◌≡◌, refl, sym, ap, ap₂, ◌∙◌}
use mathlib.Core.Bool.{Bool, true, false, cond, ◌&&◌, ◌||◌, and_comm}
use mathlib.Core.Logic.{◌⊎◌, inl, inr, ⊎_elim}
use mathlib.Core.List.{List, [], ◌∷◌, ◌++◌, map, append-nil}
use lib.ListN.{length, get_or, set, take, drop, length-set, drop_of_length-le}
use lib.Seq.{get_or-set_same, get_or-set_other, take-set-le, take-suc-set, drop-cons, append_snoc}
use lib.Dec.{eqb, ltb}
use Rattle.std.specs.Int.{from_bool}
use borrow.Author.Count.{below_more}
use borrow.Author.Tests.{eqb-true, eqb-false, ne_eqb, lt-leb, le-ltb, lt-ltb}
use Rattle.paper.specs.Frame.{most_terms}
use Rattle.paper.specs.Layout.{slots}
use Rattle.paper.specs.Order.{In}
use Rattle.paper.specs.Sort.{select}
use Rattle.paper.specs.Impact.{score_by}
use Rattle.paper.specs.Rank.{key_factor}
use Rattle.paper.specs.Threshold.{exceeds_by}
use Rattle.paper.specs.Write.{side_by_side}
use Rattle.impact.specs.Cell.{cell_term, cell_impact, lookup, RisingTerms}
use Rattle.paper.proofs.Tests.{by_bool, or_false}
use Rattle.paper.proofs.SortLaws.{in_append, in_left, in_right}
use Rattle.rank.specs.Listing.{Keyed, keyed_with, grown}
use Rattle.rank.proofs.RemovedLaws.{select_both}
use Rattle.window.specs.Slot.{slot, next, ring, live}
use Rattle.window.specs.Table.{term_limit}
use Rattle.window.specs.Rows.{row_width, found, touches, Narrow, LookedAt}
use Rattle.window.proofs.RingLaws.{ring_step, ring_none}
use Rattle.window.proofs.SlotLaws.{silent_cells}
use Rattle.candidates.specs.declared.query.Query.{Query}
use Rattle.candidates.specs.Flags.{flag_of}
use Rattle.candidates.specs.Post.{Rising, WithFlag, terms_of, line_in, grows}
use Rattle.candidates.specs.Match.{score_cells, exceeds_cells}
use Rattle.candidates.proofs.MatchLaws.{select_agree}
use Rattle.candidates.proofs.WalkLaws.{flag_stands}
use Rattle.candidates.specs.Rows.{Known, Placed, RowOf, Having, Gathered, among, shares}

-- ---- slots picked

-- m are picked of those that pass the test, and the n from slot j on are left
pub record Picking (test : ℕ → Bool) (o count : ℕ) (picked : List ℕ) (m j n : ℕ) : Type 0 where
  pub within : m + n ≤ count
  pub long : length picked ≡ slots
  pub below : (i : ℕ) → i < m → get_or picked i 0 < slots
  pub left : take m picked ++ select test (ring j n) ≡ select test (ring o count)

module _ (test : ℕ → Bool) (o count : ℕ) (picked : List ℕ) (m j n : ℕ) (some : 0 < n) (before : Picking test o count picked m j n) where
  picking_more : m < slots → j < slots → test j ≡ true → Picking test o count (set picked m j) (m + 1) (next j) (n - 1)
  unfolding select
  picking_more room low e = record {
    within = let h = before.within in omega arith;
    long = length-set picked m j ∙ before.long;
    below = λ i h. this i (eqb i m) refl h;
    left =
        rw (add-one m, take-suc-set picked m j (omega (arith, before.long)))
        (append_snoc (take m picked) j (select test (ring (next j) (n - 1))) ∙ rw (ring_step j n some, e) at before.left);
  }
    where
      this : (i : ℕ) (b : Bool) → eqb i m ≡ b → i < m + 1 → get_or (set picked m j) i 0 < slots
      this i true q h = rw (eqb-true i m q, get_or-set_same picked m j 0 (omega (arith, before.long))) low
      this i false q h =
          let ne = eqb-false i m q in
          rw (get_or-set_other picked m i j 0 ne) (before.below i (omega arith))

  picking_skipped : test j ≡ false → Picking test o count (set picked m j) m (next j) (n - 1)
  unfolding select
  picking_skipped e = record {
    within = let h = before.within in omega arith;
    long = length-set picked m j ∙ before.long;
    below = λ i h. rw (get_or-set_other picked m i j 0 (λ z. omega arith)) (before.below i h);
    left = rw (take-set-le m picked m j (omega arith)) (rw (ring_step j n some, e) at before.left);
  }

  -- by the digit of what was seen
  pub picking_turn : (b : Bool) → m < slots → j < slots → test j ≡ b → Picking test o count (set picked m j) (m + from_bool b) (next j) (n - 1)
  picking_turn true room low e = picking_more room low e
  picking_turn false room low e = rw (add-zero m) (picking_skipped e)

-- ---- the table of places

-- the first i of n terms have their places, and no other term has one
pub record Placing (n : ℕ) (ts : List ℕ) (i : ℕ) (places : List ℕ) : Type 0 where
  pub long : length places ≡ term_limit
  pub low : (t : ℕ) → get_or places t 0 ≤ i
  pub right : RisingTerms n ts → ((p : ℕ) → p < n → get_or ts p 0 < term_limit) → (t p : ℕ) → p < i → eqb (get_or places t 0) (suc p) ≡ eqb t (get_or ts p 0)

-- ---- rows

-- a term's place gets what the cells have of the term
pub found_lookup : (q : Query) (places : List ℕ) → Placed q places → Rising q → Known q → (p : ℕ) → p < q.n → (cs : List ℕ)
    → found places (suc p) cs 0 ≡ lookup (get_or q.terms p 0) cs
unfolding found lookup
found_lookup q places t r k p h [] = refl
found_lookup q places t r k p h (c ∷ cs) =
    ap₂ (λ (b : Bool) (x : ℕ). cond b (cell_impact c) x) (t.right r k (cell_term c) p h) (found_lookup q places t r k p h cs)

-- whether the message in slot j has a term with a place
abbrev pub touched_in : List ℕ → List ℕ → ℕ → Bool
touched_in w places j = touches places (slot w j).cells

-- a term has a place where it is one of the query's
place_among : (m : ℕ) (ts : List ℕ) (t x : ℕ) → x ≤ m → ((p : ℕ) → p < m → eqb x (suc p) ≡ eqb t (get_or ts p 0)) → ltb 0 x ≡ among m ts t
unfolding among
place_among zero ts t x h e = le-ltb 0 x h
place_among (suc m) ts t x h e =
    rw (← e m (omega arith))
    (by_bool (eqb x (suc m))
    (λ z. let y = eqb-true x (suc m) z in rw z (lt-ltb 0 x (omega arith)))
    (λ z. let ne = eqb-false x (suc m) z in rw z (place_among m ts t x (omega arith) (λ p l. e p (omega arith)))))

touches_shares : (q : Query) (places : List ℕ) → Placed q places → Rising q → Known q → (cs : List ℕ) → touches places cs ≡ shares q cs
unfolding touches shares
touches_shares q places table r k [] = refl
touches_shares q places table r k (c ∷ cs) =
    ap₂ ◌||◌
    (place_among q.n q.terms (cell_term c) (get_or places (cell_term c) 0) (table.low (cell_term c)) (λ p l. table.right r k (cell_term c) p l))
    (touches_shares q places table r k cs)

pub gathered_all : (w places : List ℕ) (q : Query) (o count : ℕ) (picked : List ℕ) (m j n : ℕ) → n ≤ 0 → Placed q places
    → Picking (touched_in w places) o count picked m j n → Gathered w q o count picked m
unfolding select
gathered_all w places q o count picked m j n none table p = record {
  within = let h = p.within in omega arith;
  long = p.long;
  below = p.below;
  right = λ r k.
      sym (append-nil (take m picked))
      ∙ rw (ring_none j n none) at p.left
      ∙ select_agree (touched_in w places) (λ j. shares q (slot w j).cells) (ring o count) (λ j m. touches_shares q places table r k (slot w j).cells);
}

-- the first i slots have their rows, and the other rows have nothing yet
pub record Looking (w js : List ℕ) (q : Query) (rows : List ℕ) (i : ℕ) : Type 0 where
  pub narrow : Narrow rows
  pub right : Rising q → Known q → (k : ℕ) → k < i → RowOf (slot w (get_or js k 0)).cells q rows k
  pub blank : (x : ℕ) → row_width * i ≤ x → get_or rows x 0 ≡ 0

pub looking_more : (w js : List ℕ) (q : Query) (places rows rows' : List ℕ) (i : ℕ) → q.n ≤ most_terms → Placed q places
    → LookedAt (slot w (get_or js i 0)).cells places (row_width * i) rows rows' → Looking w js q rows i → Looking w js q rows' (i + 1)
looking_more w js q places rows rows' i few table new before = record {
  narrow = new.narrow before.narrow;
  right = λ r t.
      below_more (λ (k : ℕ). RowOf (slot w (get_or js k 0)).cells q rows' k) i
      (λ k h p l. new.before (row_width * k + 1 + p) (omega arith) ∙ before.right r t k h p l) (here r t);
  blank = λ x h. new.after x (omega arith) ∙ before.blank x (omega arith);
}
  where
    here : Rising q → Known q → RowOf (slot w (get_or js i 0)).cells q rows' i
    here r t p l =
        let n : row_width * i + 1 + p ≡ row_width * i + suc p = omega arith in
        ap (λ (x : ℕ). get_or rows' x 0) n
        ∙ new.is (suc p) (omega arith)
        ∙ ap (found places (suc p) (slot w (get_or js i 0)).cells) (before.blank (row_width * i + suc p) (omega arith))
        ∙ found_lookup q places table r t p l (slot w (get_or js i 0)).cells

-- ---- slots without one of the query's terms

-- a message that has none of the terms has impact 0 in each
among_none : (n : ℕ) (ts : List ℕ) (t : ℕ) → among n ts t ≡ false → (p : ℕ) → p < n → eqb t (get_or ts p 0) ≡ false
unfolding among
among_none zero ts t e p h = absurd (not-suc-le-zero h)
among_none (suc n) ts t e p h =
    let o = or_false (eqb t (get_or ts n 0)) (among n ts t) e in
    ⊎_elim (λ z. rw z o.0) (λ l. among_none n ts t o.1 p l) (eq-or-lt_of_le (le_of_suc-le-suc h))

shares_none : (q : Query) (cs : List ℕ) → shares q cs ≡ false → (p : ℕ) → p < q.n → lookup (get_or q.terms p 0) cs ≡ 0
unfolding shares lookup
shares_none q [] e p h = refl
shares_none q (c ∷ cs) e p h =
    let o = or_false (among q.n q.terms (cell_term c)) (shares q cs) e in
    rw (among_none q.n q.terms (cell_term c) o.0 p h) (shares_none q cs o.1 p h)

pub having_shares : {w : List ℕ} {q : Query} {js js' : List ℕ} → js' ≡ select (λ j. shares q (slot w j).cells) js → Having w q js js'
having_shares {w} {q} e = record {
  test = λ j. shares q (slot w j).cells;
  kept = e;
  silent = λ r k j z p h. shares_none q (slot w j).cells z p h;
}

-- and a slot that isn't live has none
pub having_live : {w : List ℕ} {q : Query} (test : ℕ → Bool) (js : List ℕ) → Having w q (select test js) (select test (live w js))
unfolding live lookup
having_live {w} {q} test js = record {
  test = alive;
  kept = select_both alive test both (λ j. refl) js ∙ sym (select_both test alive both (λ j. and_comm (alive j) (test j)) js);
  silent = λ r k j z p h. ap (lookup (get_or q.terms p 0)) (silent_cells w j z);
}
  where
    alive : ℕ → Bool
    alive j = ltb 0 (slot w j).size

    both : ℕ → Bool
    both j = alive j && test j

-- what is 0 in the terms scores nothing, and exceeds no threshold
score_silent : (n : ℕ) (ts ws cs : List ℕ) → ((p : ℕ) → p < n → lookup (get_or ts p 0) cs ≡ 0) → score_cells (side_by_side n ts ws) cs ≡ 0
unfolding side_by_side score_by
score_silent zero ts ws cs z = refl
score_silent (suc n) [] ws cs z = refl
score_silent (suc n) (t ∷ ts) [] cs z = refl
score_silent (suc n) (t ∷ ts) (v ∷ ws) cs z =
    omega (arith, ap (λ (x : ℕ). v * x) (z 0 (omega arith)), mul-zero v, score_silent n ts ws cs (λ p h. z (suc p) (suc-le-suc h)))

exceeds_silent : (n : ℕ) (ts ws hs cs : List ℕ) → ((p : ℕ) → p < n → lookup (get_or ts p 0) cs ≡ 0) → exceeds_cells (side_by_side n ts ws) hs cs ≡ false
unfolding side_by_side exceeds_by
exceeds_silent zero ts ws hs cs z = refl
exceeds_silent (suc n) [] ws hs cs z = refl
exceeds_silent (suc n) (t ∷ ts) [] hs cs z = refl
exceeds_silent (suc n) (t ∷ ts) (v ∷ ws) [] cs z = refl
exceeds_silent (suc n) (t ∷ ts) (v ∷ ws) (h ∷ hs) cs z =
    rw (z 0 (omega arith), le-ltb h 0 (omega arith)) (exceeds_silent n ts ws hs cs (λ p l. z (suc p) (suc-le-suc l)))

-- a line of score 0 isn't listed
grown_none : (k : ℕ) (e : Keyed) (l : List Keyed) → e.key < key_factor → grown k e l ≡ l
unfolding grown
grown_none k e l z = rw (lt-leb key_factor e.key z)

-- lines of score 0 left out
grows_select : (k : ℕ) (line : ℕ → Keyed) (test : ℕ → Bool) → ((j : ℕ) → test j ≡ false → (line j).key < key_factor) → (l : List Keyed) (js : List ℕ)
    → grows k l (map line (select test js)) ≡ grows k l (map line js)
unfolding grows select
grows_select k line test none l [] = refl
grows_select k line test none l (j ∷ js) = go (λ x. grows_select k line test none x js) (test j) refl
  where
    go : ((x : List Keyed) → grows k x (map line (select test js)) ≡ grows k x (map line js)) → (b : Bool) → test j ≡ b
        → grows k l (map line (cond b (j ∷ select test js) (select test js))) ≡ grows k (grown k (line j) l) (map line js)
    go ih true e = ih (grown k (line j) l)
    go ih false e = ih l ∙ ap (λ (x : List Keyed). grows k x (map line js)) (sym (grown_none k (line j) l (none j e)))

module _ {w : List ℕ} {q : Query} {js js' : List ℕ} (by : Having w q js js') (rising : Rising q) (known : Known q) where
  -- the same list
  pub having_grows : (k : ℕ) → grows k [] (map (line_in w q) js') ≡ grows k [] (map (line_in w q) js)
  having_grows k =
      ap (λ (xs : List ℕ). grows k [] (map (line_in w q) xs)) by.kept
      ∙ grows_select k (line_in w q) by.test (λ j e. omega (arith, score_silent q.n q.terms q.weights (slot w j).cells (by.silent rising known j e))) [] js

  -- whoever is left out exceeds no threshold
  pub having_exceeds : (hs : List ℕ) (j : ℕ) → by.test j ≡ false → exceeds_cells (terms_of q) hs (slot w j).cells ≡ false
  having_exceeds hs j e = exceeds_silent q.n q.terms q.weights hs (slot w j).cells (by.silent rising known j e)

-- ---- the messages looked at, one after the other

-- the list of those left
module _ (k : ℕ) (line : ℕ → Keyed) (js : List ℕ) (i : ℕ) (l : List Keyed) where
  pub grows_next : i < length js → grows k (grown k (line (get_or js i 0)) l) (map line (drop (i + 1) js)) ≡ grows k l (map line (drop i js))
  unfolding grows
  grows_next h = rw (drop-cons js i 0 h, add-one)

  pub grows_end : length js ≤ i → grows k l (map line (drop i js)) ≡ l
  unfolding grows
  grows_end h = rw (drop_of_length-le js h)

-- a line put into a list by its parts
pub same_line : {s s' v v' : ℕ} (k : ℕ) (l : List Keyed) → s ≡ s' → v ≡ v' → grown k (keyed_with s v) l ≡ grown k (keyed_with s' v') l
same_line k l e f = ap₂ (λ (s v : ℕ). grown k (keyed_with s v) l) e f

-- the slots have the flag that the test gives, and any other has that or none
pub record Marked (test : ℕ → Bool) (xs r : List ℕ) : Type 0 where
  pub done : (t : ℕ) → In t xs → flag_of r t ≡ test t
  pub either : (t : ℕ) → (flag_of r t ≡ false) ⊎ (flag_of r t ≡ test t)

-- no other slot has a flag
abbrev pub Unmarked : List ℕ → List ℕ → Type 0
Unmarked xs r = (t : ℕ) → (In t xs → ⊥) → flag_of r t ≡ false

-- one slot more
module _ (xs : List ℕ) (j : ℕ) (r r' : List ℕ) where
  other : (b : Bool) → WithFlag r j b r' → (t : ℕ) → (t ≡ j → ⊥) → flag_of r' t ≡ flag_of r t
  other b new t ne = new t ∙ ap (λ (e : Bool). cond e b (flag_of r t)) (ne_eqb t j ne)

  pub unmarked_more : (b : Bool) → WithFlag r j b r' → Unmarked xs r → Unmarked (xs ++ (j ∷ [])) r'
  unmarked_more b new none t out =
      other b new t (λ e. out (in_right t xs (j ∷ []) (inl e))) ∙ none t (λ m. out (in_left t xs (j ∷ []) m))

  pub marked_more : (test : ℕ → Bool) → WithFlag r j (test j) r' → Marked test xs r → Marked test (xs ++ (j ∷ [])) r'
  marked_more test new before = record {
    done = λ t m. go t (eqb t j) refl (in_append t xs (j ∷ []) m);
    either = λ t. one t (eqb t j) refl (before.either t);
  }
    where
      this : (t : ℕ) → eqb t j ≡ true → flag_of r' t ≡ test t
      this t e = new t ∙ ap (λ (b : Bool). cond b (test j) (flag_of r t)) e ∙ ap test (sym (eqb-true t j e))

      go : (t : ℕ) (b : Bool) → eqb t j ≡ b → In t xs ⊎ In t (j ∷ []) → flag_of r' t ≡ test t
      go t true e m = this t e
      go t false e (inl m) = other (test j) new t (eqb-false t j e) ∙ before.done t m
      go t false e (inr (inl z)) = absurd (eqb-false t j e z)
      go t false e (inr (inr z)) = absurd z

      one : (t : ℕ) (b : Bool) → eqb t j ≡ b → (flag_of r t ≡ false) ⊎ (flag_of r t ≡ test t) → (flag_of r' t ≡ false) ⊎ (flag_of r' t ≡ test t)
      one t true e f = inr (this t e)
      one t false e (inl f) = inl (other (test j) new t (eqb-false t j e) ∙ f)
      one t false e (inr f) = inr (other (test j) new t (eqb-false t j e) ∙ f)

-- a slot whose test fails has no flag as it stands
pub marked_stands : (test : ℕ → Bool) (xs : List ℕ) (j : ℕ) (r : List ℕ) → test j ≡ false → Marked test xs r → WithFlag r j (test j) r
marked_stands test xs j r e m = flag_stands r j (test j) (⊎_elim (λ f. f ∙ sym e) (λ f. f) (m.either j))
