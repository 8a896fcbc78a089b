-- A change of the window: what the tables say of a query, why one that isn't reached stays right, and the candidates after it. Assumes nothing.
use Prim.Native.Nat.{ℕ, ◌+◌, ◌≤◌, ◌<◌}
use native.Mathlib.Omega.{arith}
use mathlib.Core.Path.{◌≡◌, refl, sym, ap, ap₂, ◌∙◌, subst}
use mathlib.Core.Bool.{Bool, true, false, cond, ◌&&◌, ◌||◌, or_comm, or-false, false≢true}
use mathlib.Core.Logic.{◌⊎◌, inl, inr, ⊎_elim}
use mathlib.Core.List.{List, [], ◌∷◌, ◌++◌, map, map-append}
use lib.ListN.{length, get_or, take, drop, length-take, get_or-eq_default, length-map}
use lib.Seq.{take-take, get_or-take, get_or-drop}
use lib.Dec.{eqb, ltb}
use borrow.Author.Tests.{eqb-true, eqb-false, eq-eqb, ne_eqb, ltb-true, lt-ltb}
use Rattle.paper.specs.Frame.{Pair, AllFit, weight_width}
use Rattle.paper.specs.Impact.{score_by, score}
use Rattle.paper.specs.Order.{In}
use Rattle.paper.specs.Rank as Rank
use Rattle.paper.specs.Window.{Message}
use Rattle.paper.specs.Sound.{Messages, Terms}
use Rattle.paper.specs.Threshold.{reached, Settled}
use Rattle.paper.specs.Layout.{slots, thresholds_in}
use Rattle.paper.proofs.Tests as Tests
use Rattle.paper.proofs.Tests.{by_bool, and_true}
use Rattle.paper.proofs.LogLaws.{messages_append, messages_split}
use Rattle.paper.proofs.SortLaws.{in_append, in_left, in_right, in_stay, in_split}
use Rattle.paper.proofs.ThresholdLaws.{ranking_same, same_candidates, skip, score_agree, exceeds_agree}
use Rattle.rank.specs.Listing.{keyed}
use Rattle.window.specs.Slot.{Slot, slot, stored, ring, live}
use Rattle.window.specs.Table.{term_limit, greatest, entry_of}
use Rattle.window.proofs.SlotLaws.{live_in, in_live}
use Rattle.window.proofs.TableLaws.{greatest_live}
use Rattle.candidates.specs.Match.{exceeds_cells, reached_slots}
use Rattle.candidates.specs.Post.{WithFlag, Without}
use Rattle.candidates.specs.Flags.{flag_of, in_ring}
use Rattle.candidates.proofs.MatchLaws.{slot_in, in_ring_lem, ring_in, exceeds_live, reached_greatest, score_greatest, score_alone}
use Rattle.query.specs.Move.{Move}
use Rattle.query.specs.declared.Touch.{Touch}
use Rattle.query.specs.Record.{size_of, thresholds, flags, list, held_of, Held, Holds}
use Rattle.query.specs.Touch.{found_above, found_sum, Touched}
use Rattle.query.specs.Post.{LoadedThresholds, Over, Exact, arriving, leaving, WithoutOne, MovedFlags, Change, reaches, Told, Tables}
use Rattle.query.proofs.ChosenLaws.{slots_reached, candidates_are, reached_append, unreached_slot}
use Rattle.query.proofs.QueryLaws.{size_said}
use Rattle.query.proofs.RecordLaws.{map_agree}
use Rattle.query.proofs.SettleLaws.{lt_or_ge}
use Rattle.query.proofs.TouchLaws.{sum_found, above_found}

-- ---- the query as it is loaded

module _ {w₀ w : List ℕ} {q o n : ℕ} {ms : List Message} {query : Rank.Query} {hs : List ℕ} (held : Held w₀ w q o n ms query) (terms : Terms query)
    (loaded : LoadedThresholds w q hs) where
  threshold_at : (i : ℕ) → i < length query.terms → get_or (thresholds w q (length query.terms)) i 0 ≡ get_or w (thresholds_in q + i) 0
  unfolding thresholds
  threshold_at i h = get_or-take (length query.terms) (drop (thresholds_in q) w) i 0 h ∙ get_or-drop (thresholds_in q) w i 0

  all_eight : hs ≡ take 8 (drop (thresholds_in q) w)
  all_eight =
      loaded.is
      (λ i h. ⊎_elim
      (λ l. omega (arith, threshold_at i l, held.settled.in_scale i))
      (λ g. omega (arith, held.no_threshold i g h))
      (lt_or_ge i (length query.terms)))

  pub first_ones : take (length query.terms) hs ≡ thresholds w q (length query.terms)
  unfolding thresholds
  first_ones = ap (take (length query.terms)) all_eight ∙ take-take (length query.terms) 8 (drop (thresholds_in q) w) (omega (arith, terms.terms.at_most))

  pub no_others : (i : ℕ) → length query.terms ≤ i → get_or hs i 0 ≡ 0
  no_others i h =
      ⊎_elim
      (λ l. ap (λ (xs : List ℕ). get_or xs i 0) all_eight
      ∙ get_or-take 8 (drop (thresholds_in q) w) i 0 l
      ∙ get_or-drop (thresholds_in q) w i 0
      ∙ held.no_threshold i h l)
      (λ g. ap (λ (xs : List ℕ). get_or xs i 0) all_eight
      ∙ get_or-eq_default (take 8 (drop (thresholds_in q) w)) 0 (omega (arith, length-take 8 (drop (thresholds_in q) w))))
      (lt_or_ge i 8)

-- ---- the flags

in_arriving : (j newest : ℕ) → In j (arriving newest) → (j ≡ newest) × (newest < slots)
in_arriving j newest m = go (ltb newest slots) refl m
  where
    go : (b : Bool) → ltb newest slots ≡ b → In j (cond b (newest ∷ []) []) → (j ≡ newest) × (newest < slots)
    go true e (inl p) = (p, ltb-true newest slots e)
    go true e (inr p) = absurd p
    go false e p = absurd p

in_or_out : (j : ℕ) (js : List ℕ) → In j js ⊎ (In j js → ⊥)
in_or_out j [] = inr (λ m. m)
in_or_out j (x ∷ js) =
    by_bool (eqb j x)
    (λ e. inl (inl (eqb-true j x e)))
    (λ e. ⊎_elim (λ m. inl (inr m)) (λ out. inr (λ m. ⊎_elim (eqb-false j x e) out m)) (in_or_out j js))

module _ (fs : List ℕ) (j : ℕ) (b : Bool) (r : List ℕ) (h : j < slots) (put : WithFlag fs j b r) where
  own_flag : (i : ℕ) → In i (arriving j) → flag_of r i ≡ b
  own_flag i m = put i ∙ ap (λ (t : Bool). cond t b (flag_of fs i)) (eq-eqb i j (in_arriving i j m).0)

  other_flag : (i : ℕ) → (In i (arriving j) → ⊥) → flag_of r i ≡ flag_of fs i
  other_flag i out = put i ∙ ap (λ (t : Bool). cond t b (flag_of fs i)) (ne_eqb i j (λ e. out (rw (lt-ltb j slots h) (inl e))))

-- the slots that left, then the cancelled one, then the newest
module _ (w : List ℕ) (q : ℕ) (m : Move) {later rest : List ℕ} (left : Without (flags w q) m.gone m.departed later)
    (one : WithoutOne later m.cancelled rest) where
  rest_gone : (j : ℕ) → In j (leaving m) → flag_of rest j ≡ false
  rest_gone j i =
      ⊎_elim (one.gone j)
      (λ out. one.others j out ∙ left.gone j (⊎_elim (λ g. g) (λ c. absurd (out c)) (in_append j (ring m.gone m.departed) (arriving m.cancelled) i)))
      (in_or_out j (arriving m.cancelled))

  rest_others : (j : ℕ) → (In j (leaving m) → ⊥) → flag_of rest j ≡ flag_of (flags w q) j
  rest_others j out =
      one.others j (λ i. out (in_right j (ring m.gone m.departed) (arriving m.cancelled) i))
      ∙ left.others j (λ i. out (in_left j (ring m.gone m.departed) (arriving m.cancelled) i))

  pub flags_moved : (comes : Bool) (r : List ℕ) → m.newest < slots → WithFlag rest m.newest comes r → MovedFlags w q m comes r
  flags_moved comes r h put = record {
    new = own_flag rest m.newest comes r h put;
    gone = λ j old i. other_flag rest m.newest comes r h put j old ∙ rest_gone j i;
    others = λ j old out. other_flag rest m.newest comes r h put j old ∙ rest_others j out;
  }

  pub none_moved : {comes : Bool} → slots ≤ m.newest → MovedFlags w q m comes rest
  none_moved h = record {
    new = λ j i. absurd (omega (arith, (in_arriving j m.newest i).1));
    gone = λ j old i. rest_gone j i;
    others = λ j old out. rest_others j out;
  }

-- ---- the change

both_or_neither : (a b : Bool) → (a ≡ true → b ≡ true) → (b ≡ true → a ≡ true) → a ≡ b
both_or_neither true b f g = sym (f refl)
both_or_neither false true f g = g refl
both_or_neither false false f g = refl

-- whoever is in the window and exceeds a threshold is live
above_live : (w : List ℕ) (o n : ℕ) (qs : List Pair) (hs : List ℕ) → o < slots → (j : ℕ) → (in_ring o n j && exceeds_cells qs hs (slot w j).cells) ≡ true
    → In j (live w (ring o n))
above_live w o n qs hs low j e =
    let p = and_true (in_ring o n j) (exceeds_cells qs hs (slot w j).cells) e in
    in_live w (ring o n) j (ring_in o n j low (slot_in o n j p.0) p.0) (exceeds_live w j qs hs p.1)

-- of one slot, whether it is reached is its own test
one_reached : (qs : List Pair) (hs w : List ℕ) (j newest : ℕ) → In j (arriving newest)
    → reached_slots qs hs (map (slot w) (arriving newest)) ≡ exceeds_cells qs hs (slot w j).cells
unfolding reached_slots
one_reached qs hs w j newest m =
    let p = in_arriving j newest m in
    rw (lt-ltb newest slots p.1, p.0) (or-false (exceeds_cells qs hs (slot w newest).cells))

module _ {w₀ w : List ℕ} {o n : ℕ} {m : Move} {aa ga sa ca : List Message} (change : Change w₀ w o n m aa ga sa ca) where
  abbrev stay : List ℕ
  stay = change.stay_slots

  abbrev come : List ℕ
  come = arriving m.newest

  valid_gone : Messages ga
  valid_gone = (messages_split change.split change.valid).0

  pub come_after : map (slot w) come ≡ map stored ca
  come_after = map_agree (slot w) (slot w₀) come (λ j i. change.same j (in_right j stay come i)) ∙ change.come

  pub over_after : Over w m.first m.count (sa ++ ca)
  over_after = record {
    shows =
        ap (map (slot w)) change.after
        ∙ map_agree (slot w) (slot w₀) (stay ++ come) change.same
        ∙ map-append (slot w₀) stay come
        ∙ ap₂ ◌++◌ change.stay change.come
        ∙ sym (map-append stored sa ca);
    valid = messages_append sa ca (messages_split change.split change.valid).1 change.valid_new;
  }

  in_after : (j : ℕ) → In j (stay ++ come) → in_ring m.first m.count j ≡ true
  in_after j i =
      (in_ring_lem m.first m.count j change.then_below (live_in w (ring m.first m.count) j (subst (In j) (sym change.after) i)).0).1

  -- which slots have a flag at some thresholds, before and after
  module _ (qs : List Pair) (hs : List ℕ) where
    abbrev exceeding : List ℕ → ℕ → Bool
    exceeding v j = exceeds_cells qs hs (slot v j).cells

    abbrev above_before : ℕ → Bool
    above_before j = in_ring o n j && exceeding w₀ j

    abbrev above_after : ℕ → Bool
    above_after j = in_ring m.first m.count j && exceeding w j

    same_cells : (j : ℕ) → In j (stay ++ come) → exceeding w j ≡ exceeding w₀ j
    same_cells j i = ap (λ (x : Slot). exceeds_cells qs hs x.cells) (change.same j i)

    who_stays : (j : ℕ) → In j stay → above_before j ≡ above_after j
    who_stays j i =
        let l = in_left j stay come i in
        let b = (in_ring_lem o n j change.first_below (live_in w₀ (ring o n) j (in_stay j change.before i)).0).1 in
        ap₂ ◌&&◌ (b ∙ sym (in_after j l)) (sym (same_cells j l))

    who_comes : (j : ℕ) → In j come → above_after j ≡ exceeding w₀ j
    who_comes j i = let r = in_right j stay come i in ap₂ ◌&&◌ (in_after j r) (same_cells j r)

    among_after : (j : ℕ) → above_after j ≡ true → In j stay ⊎ In j come
    among_after j e = in_append j stay come (subst (In j) change.after (above_live w m.first m.count qs hs change.then_below j e))

    who_leaves : (j : ℕ) → (In j come → ⊥) → In j (leaving m) → above_after j ≡ false
    who_leaves j old i = by_bool (above_after j) (λ e. absurd (⊎_elim (change.apart j i) old (among_after j e))) (λ e. e)

    -- no flag changes but those of slots that go or come
    same_above : (j : ℕ) → (In j (live w₀ (leaving m)) → exceeding w₀ j ≡ false) → (In j come → exceeding w₀ j ≡ false) → above_before j ≡ above_after j
    same_above j goes comes = both_or_neither (above_before j) (above_after j) forth back
      where
        forth : above_before j ≡ true → above_after j ≡ true
        forth e =
            ⊎_elim
            (λ g. absurd (false≢true (sym (goes g) ∙ (and_true (in_ring o n j) (exceeding w₀ j) e).1)))
            (λ s. sym (who_stays j s) ∙ e)
            (in_split j change.before (above_live w₀ o n qs hs change.first_below j e))

        back : above_after j ≡ true → above_before j ≡ true
        back e = ⊎_elim (λ s. who_stays j s ∙ e) (λ c. absurd (false≢true (sym (comes c) ∙ sym (who_comes j c) ∙ e))) (among_after j e)

  -- a query that was right before
  module _ {q : ℕ} {query : Rank.Query} (held : Held w₀ w q o n aa query) where
    abbrev its : List Pair
    its = query.terms

    abbrev old : List ℕ
    old = thresholds w q (length its)

    module _ (unreached : reached its old (ga ++ ca) ≡ false) where
      neither : (reached its old ga ≡ false) × (reached its old ca ≡ false)
      neither = Tests.or_false (reached its old ga) (reached its old ca) (sym (reached_append its old ga ca) ∙ unreached)

      same_flags : Exact w m.first m.count (flags w q) its old
      same_flags j =
          held.flagged j
          ∙ same_above its old j
          (unreached_slot its old w₀ (live w₀ (leaving m)) (slots_reached w₀ (live w₀ (leaving m)) ga valid_gone change.gone its old ∙ neither.0) j)
          (unreached_slot its old w₀ come (slots_reached w₀ come ca change.valid_new change.come its old ∙ neither.1) j)

      skipped : Settled query (sa ++ ca) (held_of w₀ w q o n (length its))
      skipped = skip query ca (held_of w₀ w q o n (length its)) change.split held.settled unreached

      -- THE LAW: a record that a change of the window doesn't reach is right after it
      pub stays_right : Holds w q m.first m.count (sa ++ ca) query
      stays_right = record {
        says = held.says;
        settled =
            subst (λ (cs : List ℕ). Settled query (sa ++ ca) (record { thresholds = old; candidates = cs; list = list w q }))
            (skipped.above ∙ sym (candidates_are q its old change.then_below over_after same_flags)) skipped;
        ranked =
            held.ranked
            ∙ ap keyed
            (ranking_same query aa (sa ++ ca) (held_of w₀ w q o n (length its)) held.settled (same_candidates its old ca change.split unreached));
        flagged = same_flags;
        no_threshold = held.no_threshold;
        listed_most = held.listed_most;
        no_serial = held.no_serial;
        no_key = held.no_key;
      }

    flags_after : {comes : Bool} {fs : List ℕ} → comes ≡ reached its old ca → MovedFlags w q m comes fs → Exact w m.first m.count fs its old
    flags_after comes_is moved j =
        ⊎_elim
        (λ i. moved.new j i
        ∙ comes_is
        ∙ sym (slots_reached w₀ come ca change.valid_new change.come its old)
        ∙ one_reached its old w₀ j m.newest i
        ∙ sym (who_comes its old j i))
        (λ out. ⊎_elim
        (λ i. moved.gone j out i ∙ sym (who_leaves its old j out i))
        (λ still. moved.others j out still
        ∙ held.flagged j
        ∙ same_above its old j (λ i. absurd (still (live_in w₀ (leaving m) j i).0)) (λ i. absurd (out i)))
        (in_or_out j (leaving m)))
        (in_or_out j come)

-- ---- what the tables say

fit_in : (qs : List Pair) → AllFit weight_width qs → (p : Pair) → In p qs → p.term < term_limit
fit_in [] a p i = absurd i
fit_in (q ∷ qs) a p (inl e) = subst (λ (x : Pair). x.term < term_limit) (sym e) a.0
fit_in (q ∷ qs) a p (inr i) = fit_in qs a.2 p i

-- at most one message comes
alone : (P : Message → Type 0) (ca : List Message) → length ca ≤ 1 → ((x : Message) → ca ≡ x ∷ [] → P x) → (m : Message) → In m ca → P m
alone P [] h f m i = absurd i
alone P (x ∷ []) h f m (inl e) = subst P (sym e) (f x refl)
alone P (x ∷ []) h f m (inr i) = absurd i
alone P (x ∷ y ∷ ca) h f m i = absurd (omega arith)

few_arrive : (newest : ℕ) → length (arriving newest) ≤ 1
few_arrive newest = go (ltb newest slots)
  where
    go : (b : Bool) → length (cond {A = List ℕ} b (newest ∷ []) []) ≤ 1
    go true = omega arith
    go false = omega arith

module _ {w₀ w : List ℕ} {q : ℕ} {m : Move} {coming going : List ℕ} {touch : Touch} (touched : Touched w q coming going touch)
    (tables : Tables w₀ m coming going)
    {o n : ℕ} {aa ga sa ca : List Message} {query : Rank.Query} (change : Change w₀ w o n m aa ga sa ca) (terms : Terms query)
    (held : Held w₀ w q o n aa query) where
  abbrev qs : List Pair
  qs = query.terms

  abbrev hs : List ℕ
  hs = thresholds w q (length qs)

  -- a table that gives each term the greatest impact of these messages
  abbrev Gives : List ℕ → List Message → Type 0
  Gives table ms = (t : ℕ) → t < term_limit → entry_of table t ≡ greatest t (map stored ms)

  new_given : Gives coming ca
  new_given t h = tables.new.is t h ∙ ap (greatest t) change.come

  old_given : Gives going ga
  old_given t h = tables.old.is t h ∙ sym (greatest_live w₀ (leaving m) t) ∙ ap (greatest t) change.gone

  size_is : size_of w q ≡ length qs
  size_is = size_said terms held.says

  above_is : (table : List ℕ) (ms : List Message) → Gives table ms → Messages ms → found_above w q table (size_of w q) ≡ reached qs hs ms
  above_is table ms given v =
      ap (found_above w q table) size_is
      ∙ above_found terms held.says table held.settled.one_each
      ∙ exceeds_agree (entry_of table) (λ t. greatest t (map stored ms)) qs hs (λ p i. given p.term (fit_in qs terms.terms.fit p i))
      ∙ reached_greatest qs hs ms v

  sum_is : (table : List ℕ) (ms : List Message) → Gives table ms → found_sum w q table (size_of w q) ≡ score_by (λ t. greatest t (map stored ms)) qs
  sum_is table ms given =
      ap (found_sum w q table) size_is
      ∙ sum_found terms held.says table
      ∙ score_agree (entry_of table) (λ t. greatest t (map stored ms)) qs (λ p i. given p.term (fit_in qs terms.terms.fit p i))

  comes_is : touch.comes ≡ reached qs hs ca
  comes_is = touched.comes ∙ above_is coming ca new_given change.valid_new

  goes_is : touch.goes ≡ reached qs hs ga
  goes_is = touched.goes ∙ above_is going ga old_given (valid_gone change)

  pub answered : (touch.comes || touch.goes) ≡ reaches w q ga ca query
  answered = ap₂ ◌||◌ comes_is goes_is ∙ or_comm (reached qs hs ca) (reached qs hs ga) ∙ sym (reached_append qs hs ga ca)

  pub told : {fs : List ℕ} → MovedFlags w q m touch.comes fs → Told w q m.first m.count ga ca query touch fs
  told moved = record {
    came = alone (λ x. touch.came ≡ score qs x.pairs) ca few came_is;
    went = λ x i. let l = score_greatest qs ga (valid_gone change) x i in omega (arith, touched.went, sum_is going ga old_given);
    exact = flags_after change held comes_is moved;
  }
    where
      few : length ca ≤ 1
      few =
          let e = ap length change.come in
          let a = few_arrive m.newest in
          omega (arith, length-map (arriving m.newest) (slot w₀), length-map ca stored)

      came_is : (x : Message) → ca ≡ x ∷ [] → touch.came ≡ score qs x.pairs
      came_is x e =
          touched.came
          ∙ sum_is coming ca new_given
          ∙ ap (λ (ms : List Message). score_by (λ t. greatest t (map stored ms)) qs) e
          ∙ score_alone qs x (subst Messages e change.valid_new)
