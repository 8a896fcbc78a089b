-- Matching stored messages is matching paper's. Assumes nothing.
use Prim.Native.Nat.{ℕ, zero, suc, ◌+◌, ◌*◌, ◌-◌, ◌%◌, ◌≤◌, ◌<◌}
use native.Mathlib.Nat.{not-suc-le-zero}
use native.Mathlib.Omega.{arith}
use mathlib.Core.Path.{◌≡◌, refl, sym, ap, ap₂, ◌∙◌}
use mathlib.Core.Bool.{Bool, true, false, cond, ◌||◌, false≢true}
use mathlib.Core.Logic.{inl, inr}
use mathlib.Core.List.{List, [], ◌∷◌, ◌++◌, map, append_assoc, append-nil}
use lib.Seq.{take-nil}
use lib.Dec.{eqb, ltb}
use borrow.Author.Tests.{ltb-true, lt-ltb, eqb-true, eqb-false}
use Rattle.paper.specs.Frame.{Pair, Pairs, level, count_width, most_pairs}
use Rattle.paper.specs.Impact.{impact_in, score_by, score}
use Rattle.paper.specs.Order.{In, Ordered}
use Rattle.paper.specs.Rank.{Query, Entry, key_factor, key, entry, ranking}
use Rattle.paper.specs.Sort.{select, inserts}
use Rattle.paper.specs.Sound.{Messages}
use Rattle.paper.specs.Threshold.{exceeds, exceeds_by, reached}
use Rattle.paper.specs.Window.{Message}
use Rattle.paper.specs.Layout.{slots}
use Rattle.paper.proofs.FrameLaws.{level_most}
use Rattle.paper.proofs.RankLaws.{ranking_more}
use Rattle.paper.proofs.SortLaws.{select_map, select_select}
use Rattle.paper.proofs.Tests.{by_bool, and_true}
use Rattle.paper.proofs.ThresholdLaws.{score_agree, exceeds_agree, score_most, exceeds_either, exceeds_none}
use Rattle.impact.specs.Cell.{cells_of, lookup}
use Rattle.impact.proofs.CellLaws.{lookup_cells, rising_cells}
use Rattle.rank.specs.Listing.{Keyed, keyed_entry, keyed, keyed_with, grown}
use Rattle.rank.proofs.PaperLaws.{keyed_grown}
use Rattle.window.specs.Slot.{Slot, slot, stored, next, ring, live}
use Rattle.window.specs.Table.{highest, greatest}
use Rattle.window.proofs.SlotLaws.{silent_cells, live_in}
use Rattle.window.proofs.TableLaws.{highest_lookup}
use Rattle.candidates.specs.Match.{score_cells, exceeds_cells, reached_slots, scored}
use Rattle.candidates.specs.Flags.{in_ring}
use Rattle.candidates.specs.Post.{grows}

-- ---- a stored message

pub score_stored : (qs : List Pair) (m : Message) → Pairs count_width most_pairs m.pairs → score_cells qs (stored m).cells ≡ score qs m.pairs
unfolding stored
score_stored qs m v = score_agree (λ t. lookup t (cells_of m.pairs)) (impact_in m.pairs) qs (λ p i. lookup_cells m.pairs v p.term)

pub exceeds_stored : (qs : List Pair) (hs : List ℕ) (m : Message) → Pairs count_width most_pairs m.pairs
    → exceeds_cells qs hs (stored m).cells ≡ exceeds qs hs m.pairs
unfolding stored
exceeds_stored qs hs m v = exceeds_agree (λ t. lookup t (cells_of m.pairs)) (impact_in m.pairs) qs hs (λ p i. lookup_cells m.pairs v p.term)

-- ---- a window of stored messages

pub reached_stored : (qs : List Pair) (hs : List ℕ) (ms : List Message) → Messages ms → reached_slots qs hs (map stored ms) ≡ reached qs hs ms
unfolding reached_slots reached
reached_stored qs hs [] v = refl
reached_stored qs hs (m ∷ ms) v = ap₂ (λ (a b : Bool). a || b) (exceeds_stored qs hs m v.1) (reached_stored qs hs ms v.2)

-- ---- the greatest impacts of stored messages

highest_stored : (m : Message) → Pairs count_width most_pairs m.pairs → (t : ℕ) → highest t (stored m).cells ≡ impact_in m.pairs t
unfolding stored
highest_stored m v t = highest_lookup t (cells_of m.pairs) (rising_cells m.pairs v) ∙ lookup_cells m.pairs v t

-- the greatest exceed a threshold exactly where one of the messages does
pub reached_greatest : (qs : List Pair) (hs : List ℕ) (ms : List Message) → Messages ms → exceeds_by (λ t. greatest t (map stored ms)) qs hs ≡ reached qs hs ms
unfolding greatest reached
reached_greatest qs hs [] v = exceeds_none (λ t. 0) (λ t. refl) qs hs
reached_greatest qs hs (m ∷ ms) v =
    exceeds_either (λ t. highest t (stored m).cells) (λ t. greatest t (map stored ms)) qs hs
    ∙ ap₂ ◌||◌
    (exceeds_agree (λ t. highest t (stored m).cells) (impact_in m.pairs) qs hs (λ p i. highest_stored m v.1 p.term))
    (reached_greatest qs hs ms v.2)

-- none of them scores above what the greatest come to
pub score_greatest : (qs : List Pair) (ms : List Message) → Messages ms → (m : Message) → In m ms
    → score qs m.pairs ≤ score_by (λ t. greatest t (map stored ms)) qs
unfolding greatest
score_greatest qs [] v m i = absurd i
score_greatest qs (x ∷ ms) v m (inl e) =
    score_most (impact_in m.pairs) (λ t. greatest t (map stored (x ∷ ms))) qs
    (λ t. omega (arith, highest_stored x v.1 t, ap (λ (y : Message). impact_in y.pairs t) e))
score_greatest qs (x ∷ ms) v m (inr i) =
    let ih = score_greatest qs ms v.2 m i in
    let more = score_most (λ t. greatest t (map stored ms)) (λ t. greatest t (map stored (x ∷ ms))) qs (λ t. omega arith) in
    omega arith

-- of one message they come to its score
pub score_alone : (qs : List Pair) (m : Message) → Messages (m ∷ []) → score_by (λ t. greatest t (map stored (m ∷ []))) qs ≡ score qs m.pairs
unfolding greatest
score_alone qs m v =
    score_agree (λ t. greatest t (map stored (m ∷ []))) (impact_in m.pairs) qs (λ p i. omega (arith, highest_stored m v.1 p.term))

-- messages put into a list one after the other are ranked: from the ranking of earlier ones on, and from nothing
grows_on : (q : Query) (xs ms : List Message)
    → grows q.k (keyed (ranking q xs)) (map (λ m. keyed_entry (entry (score q.terms) m)) ms) ≡ keyed (ranking q (xs ++ ms))
unfolding grows
grows_on q xs [] = ap (λ (l : List Message). keyed (ranking q l)) (sym (append-nil xs))
grows_on q xs (m ∷ ms) =
    let one : grown q.k (keyed_entry (entry (score q.terms) m)) (keyed (ranking q xs)) ≡ keyed (ranking q (xs ++ (m ∷ []))) =
    sym (ap keyed (ranking_more q xs m) ∙ keyed_grown q.k (entry (score q.terms) m) (ranking q xs)) in
    ap (λ (l : List Keyed). grows q.k l (map (λ m. keyed_entry (entry (score q.terms) m)) ms)) one
    ∙ grows_on q (xs ++ (m ∷ [])) ms
    ∙ ap (λ (l : List Message). keyed (ranking q l)) (append_assoc xs (m ∷ []) ms)

pub grows_ranking : (q : Query) (ms : List Message) → grows q.k [] (map (λ m. keyed_entry (entry (score q.terms) m)) ms) ≡ keyed (ranking q ms)
unfolding ranking select inserts
grows_ranking q ms =
    let none : ranking q [] ≡ [] = take-nil q.k in
    ap (λ (l : List Entry). grows q.k (keyed l) (map (λ m. keyed_entry (entry (score q.terms) m)) ms)) (sym none) ∙ grows_on q [] ms

keyed_stored : (qs : List Pair) (ms : List Message) → Messages ms → map (scored qs) (map stored ms) ≡ map (λ m. keyed_entry (entry (score qs) m)) ms
unfolding stored
keyed_stored qs [] v = refl
keyed_stored qs (m ∷ ms) v =
    let few = level_most m.urgency in
    let k : score_cells qs (cells_of m.pairs) * key_factor + level m.urgency % key_factor ≡ key (entry (score qs) m) = omega (arith, score_stored qs m v.1) in
    ap₂ (λ (c : ℕ) (l : List Keyed). keyed_with m.serial c ∷ l) k (keyed_stored qs ms v.2)

pub ranking_stored : (q : Query) (ms : List Message) → Messages ms → grows q.k [] (map (scored q.terms) (map stored ms)) ≡ keyed (ranking q ms)
ranking_stored q ms v = ap (grows q.k []) (keyed_stored q.terms ms v) ∙ grows_ranking q ms

-- ---- the slots of the window

-- how far slot j is from slot o
abbrev pub away : ℕ → ℕ → ℕ
away o j = (j + slots - o) % slots

pub slot_in : (o n j : ℕ) → in_ring o n j ≡ true → j < slots
unfolding in_ring
slot_in o n j e = ltb-true j slots (and_true (ltb j slots) (ltb (away o j) n) e).0

-- of a slot, how far it is away decides
pub ring_test : (o n j : ℕ) → j < slots → ltb (away o j) n ≡ in_ring o n j
unfolding in_ring
ring_test o n j h = rw (lt-ltb j slots h)

near : (o n j : ℕ) → in_ring o n j ≡ true → away o j < n
unfolding in_ring
near o n j e = ltb-true (away o j) n (and_true (ltb j slots) (ltb (away o j) n) e).1

pub in_near : (o n j : ℕ) → j < slots → away o j < n → in_ring o n j ≡ true
in_near o n j h l = sym (ring_test o n j h) ∙ lt-ltb (away o j) n l

pub in_ring_lem : (o n j : ℕ) → o < slots → In j (ring o n) → (j < slots) × (in_ring o n j ≡ true)
unfolding ring
in_ring_lem o zero j h m = absurd m
in_ring_lem o (suc n) j h (inl e) = (omega arith, in_near o (suc n) j (omega arith) (omega arith))
in_ring_lem o (suc n) j h (inr m) =
    let ih = in_ring_lem (next o) n j (omega arith) m in
    let l = near (next o) n j ih.1 in
    (ih.0, in_near o (suc n) j ih.0 (omega arith))

pub ring_in : (o n j : ℕ) → o < slots → j < slots → in_ring o n j ≡ true → In j (ring o n)
unfolding ring
ring_in o zero j h k e = absurd (not-suc-le-zero (near o 0 j e))
ring_in o (suc n) j h k e = go (eqb j o) refl (ring_in (next o) n j (omega arith) k)
  where
    go : (t : Bool) → eqb j o ≡ t → (in_ring (next o) n j ≡ true → In j (ring (next o) n)) → In j (ring o (suc n))
    go true q ih = inl (eqb-true j o q)
    go false q ih =
        let l = near o (suc n) j e in
        let ne = eqb-false j o q in
        inr (ih (in_near (next o) n j k (omega arith)))

-- no slot stands twice in a window
pub ring_apart : (o n : ℕ) → o < slots → n < slots → Ordered (λ i j. i ≡ j → ⊥) (ring o n)
unfolding ring in_ring
ring_apart o zero h k = tt
ring_apart o (suc n) h k = (
  λ j m e. let a = near (next o) n j (in_ring_lem (next o) n j (omega arith) m).1 in omega arith,
  ring_apart (next o) n (omega arith) (omega arith),
)

-- whoever exceeds a threshold is live
pub exceeds_live : (w : List ℕ) (j : ℕ) (qs : List Pair) (hs : List ℕ) → exceeds_cells qs hs (slot w j).cells ≡ true → ltb 0 (slot w j).size ≡ true
unfolding lookup
exceeds_live w j qs hs e =
    by_bool (ltb 0 (slot w j).size) (λ l. l)
    (λ s. absurd (false≢true (sym (ap (exceeds_cells qs hs) (silent_cells w j s) ∙ exceeds_none (λ t. lookup t []) (λ t. refl) qs hs) ∙ e)))

-- ---- the slots that a test takes

-- two tests that agree on a list select the same of it
pub select_agree : {A : Type 0} (s t : A → Bool) (l : List A) → ((x : A) → In x l → s x ≡ t x) → select s l ≡ select t l
unfolding select
select_agree s t [] h = refl
select_agree {A} s t (x ∷ xs) h = ap₂ (λ (b : Bool) (r : List A). cond b (x ∷ r) r) (h x (inl refl)) (select_agree s t xs (λ y m. h y (inr m)))

module _ (w js : List ℕ) (qs : List Pair) (hs : List ℕ) (test : ℕ → Bool) (agrees : (j : ℕ) → In j js → test j ≡ exceeds_cells qs hs (slot w j).cells) where
  abbrev exceeding : ℕ → Bool
  exceeding j = exceeds_cells qs hs (slot w j).cells

  agrees_live : select test (live w js) ≡ select exceeding (live w js)
  agrees_live = select_agree test exceeding (live w js) (λ j m. agrees j (live_in w js j m).0)

  -- whoever is taken is live
  pub taken_live : select test (live w js) ≡ select test js
  unfolding live
  taken_live =
      agrees_live ∙ select_select exceeding (λ j. ltb 0 (slot w j).size) (λ j e. exceeds_live w j qs hs e) js ∙ sym (select_agree test exceeding js agrees)

  pub taken_slots : map (slot w) (select test js) ≡ select (λ x. exceeds_cells qs hs x.cells) (map (slot w) (live w js))
  taken_slots = ap (map (slot w)) (sym taken_live ∙ agrees_live) ∙ sym (select_map (slot w) (λ (x : Slot). exceeds_cells qs hs x.cells) (live w js))
