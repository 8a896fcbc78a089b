-- A query's list changed in place is right after the change, and so is what is kept beside it. Assumes nothing.
use Prim.Native.Nat.{ℕ, ◌+◌, ◌/◌, ◌≤◌, ◌<◌}
use native.Mathlib.Nat.{eq-or-lt_of_le}
use native.Mathlib.Omega.{arith}
use mathlib.Core.Path.{◌≡◌, refl, sym, ap, ap₂, ◌∙◌, subst}
use mathlib.Core.Bool.{Bool, true, false, cond, not, ◌&&◌}
use mathlib.Core.Logic.{◌⊎◌, inl, inr, ⊎_elim}
use mathlib.Core.List.{List, [], ◌∷◌, ◌++◌, map, append-nil}
use lib.ListN.{length, get_or, take, length-map, length-take}
use lib.Seq.{get_or-take, take_all}
use lib.Dec.{leb, ltb}
use borrow.Author.Tests.{eq-eqb, ne_eqb, leb-true, leb-false, lt-ltb}
use Rattle.paper.specs.Frame.{most_listed}
use Rattle.paper.specs.Impact.{score}
use Rattle.paper.specs.Order.{In}
use Rattle.paper.specs.Rank as Rank
use Rattle.paper.specs.Rank.{Entry, key_factor, key, ahead, entry, ranking, serials}
use Rattle.paper.specs.Sort.{select, insert}
use Rattle.paper.specs.Sound.{Terms}
use Rattle.paper.specs.Threshold.{threshold_sum, last_score}
use Rattle.paper.specs.Threshold as Threshold
use Rattle.paper.specs.Window.{Message}
use Rattle.paper.specs.Layout.{slots, listed_in, thresholds_in, serials_in, keys_in}
use Rattle.paper.proofs.Tests.{by_bool}
use Rattle.paper.proofs.FrameLaws.{level_most}
use Rattle.paper.proofs.RankLaws.{ranking_length}
use Rattle.paper.proofs.SortLaws.{in_take, in_left, select_length}
use Rattle.paper.proofs.LeadLaws.{AtLeast, last_key, last_key_score, entry_stays, leads_entry}
use Rattle.paper.proofs.PlaceLaws.{Placed, placed_full, placed_short, placed_gone, placed_left, placed_come, placed_low, placed_ranking}
use Rattle.paper.proofs.ThresholdLaws.{sum_zero, settled_again}
use Rattle.memory.proofs.KeepsLaws.{keeps_at, keeps_part}
use Rattle.rank.specs.declared.Ranked.{Ranked}
use Rattle.rank.specs.Listing.{Keyed, keyed_entry, keyed, keyed_with, keyed_of, last_of, least_of, Tidy, grown, withouts, has_number}
use Rattle.rank.proofs.LineLaws.{length_listed}
use Rattle.rank.proofs.PaperLaws.{keyed_last, keyed_grown}
use Rattle.rank.proofs.RemovedLaws.{without_keyed}
use Rattle.window.specs.Slot.{Slot, slot, grade_in, stored}
use Rattle.window.proofs.SlotLaws.{slot_kept}
use Rattle.candidates.specs.declared.Query.{Query}
use Rattle.candidates.specs.Flags.{flag_of, in_ring}
use Rattle.candidates.specs.Match.{exceeds_cells}
use Rattle.candidates.proofs.MatchLaws.{slot_in, select_agree}
use Rattle.query.specs.Move.{Move}
use Rattle.query.specs.declared.Touch.{Touch}
use Rattle.query.specs.Record.{thresholds, flags, keys, candidates, held_of, Held, Holds}
use Rattle.query.specs.Post.{Is, LoadedQuery, LoadedThresholds, LoadedList, Ready, Exact, arriving, leaving_serials}
use Rattle.query.specs.Post.{KeptList, WithoutGone, key_in, WithNewest, Change, Told, SettledFrom, Retuned, Changed}
use Rattle.query.proofs.ChosenLaws.{messages_in, candidates_are}
use Rattle.query.proofs.KeptLaws.{over_kept}
use Rattle.query.proofs.RecordLaws.{cells_same, says_same}
use Rattle.query.proofs.SettleLaws.{Sixteen, last_positive, lt_or_ge}
use Rattle.query.proofs.MoveLaws.{first_ones, no_others, come_after, over_after}

-- where every entry has at least a bound as its key the last does
last_high : (b : ℕ) (es : List Entry) → AtLeast b es → 1 ≤ length es → b ≤ last_key es
unfolding last_key
last_high b [] h l = absurd (omega arith)
last_high b (e ∷ []) h l = h e (inl refl)
last_high b (e ∷ x ∷ xs) h l = last_high b (x ∷ xs) (λ y m. h y (inr m)) (omega arith)

-- ---- the message that comes

abbrev first : Slot → List Slot → Slot
first d [] = d
first d (x ∷ xs) = x

module _ (w : List ℕ) (newest : ℕ) {ca : List Message} (come : map (slot w) (arriving newest) ≡ map stored ca) where
  -- there is one in the slot, or none
  arrived : ((ltb newest slots ≡ false) × (ca ≡ [])) ⊎ ((x : Message) × (ltb newest slots ≡ true) × (ca ≡ x ∷ []) × (slot w newest ≡ stored x))
  arrived = go (ltb newest slots) ca refl come
    where
      go : (b : Bool) (ca : List Message) → ltb newest slots ≡ b → map (slot w) (cond b (newest ∷ []) []) ≡ map stored ca
          → ((b ≡ false) × (ca ≡ [])) ⊎ ((x : Message) × (b ≡ true) × (ca ≡ x ∷ []) × (slot w newest ≡ stored x))
      go false [] t e = inl (refl, refl)
      go false (x ∷ ca) t e = absurd (let l = ap length e in omega arith)
      go true [] t e = absurd (let l = ap length e in omega arith)
      go true (x ∷ []) t e = inr (x, refl, refl, ap (first (slot w newest)) e)
      go true (x ∷ y ∷ ca) t e = absurd (let l = ap length e in omega arith)

-- ---- the list

module _ {w₀ w : List ℕ} {q o n : ℕ} {m : Move} {aa ga sa ca : List Message} {query : Rank.Query} (change : Change w₀ w o n m aa ga sa ca)
    (terms : Terms query) (held : Held w₀ w q o n aa query) {least : ℕ} (least-is : least ≡ least_of query.k (keys w q)) where
  abbrev es : List Entry
  es = ranking query aa

  abbrev k : ℕ
  k = query.k

  length_is : length (keys w q) ≡ length es
  length_is = ap length held.ranked ∙ length-map es keyed_entry

  -- where it stands before the change: full, or all that scores
  record Start (bound : ℕ) : Type 0 where
    placed : Placed query bound least aa es
    how : ((length es ≡ k) × (least ≡ last_key es)) ⊎ ((length es < k) × (bound ≡ 0))

  start : (bound : ℕ) × Start bound
  start = ⊎_elim full short (eq-or-lt_of_le (ranking_length query aa))
    where
      full : length es ≡ k → (bound : ℕ) × Start bound
      full e =
          let l : least ≡ last_key es =
          least-is
          ∙ ap (λ (b : Bool). cond b (last_of (keys w q)) key_factor) (eq-eqb (length (keys w q)) k (length_is ∙ e))
          ∙ ap last_of held.ranked
          ∙ keyed_last es in
          let p = placed_full query aa terms.k_least e (last_positive query aa (omega (arith, terms.k_least))) in
          (last_key es, record { placed = subst (λ (n : ℕ). Placed query (last_key es) n aa es) (sym l) p; how = inl (e, l) })

      short : length es < k → (bound : ℕ) × Start bound
      short h =
          let l : least ≡ key_factor =
          least-is ∙ ap (λ (b : Bool). cond b (last_of (keys w q)) key_factor) (ne_eqb (length (keys w q)) k (λ e. omega (arith, length_is))) in
          (0, record { placed = subst (λ (n : ℕ). Placed query 0 n aa es) (sym l) (placed_short query aa h); how = inr (h, refl) })

  module _ {touch : Touch} {fs : List ℕ} (told : Told w q m.first m.count ga ca query touch fs) {bound : ℕ} (from : Start bound) where
    -- a message that scores less than the least score has a lower key whatever its urgency
    below_least : (x : Message) {most : ℕ} → score query.terms x.pairs ≤ most → most < least / key_factor
        → key (entry (score query.terms) x) < least
    below_least x h l = omega (arith, level_most x.urgency)

    -- what left goes out
    record Gone (rest : Ranked) : Type 0 where
      stay : List Entry
      shows : keyed_of rest ≡ keyed stay
      placed : Placed query bound least sa stay
      few : length stay ≤ k

    gone : {l rest : Ranked} → keyed_of l ≡ keys w q → WithoutGone w m touch.went least l rest → Gone rest
    gone {l} {rest} loaded out = by_bool (leb (least / key_factor) touch.went) some none
      where
        made : (b : Bool) → leb (least / key_factor) touch.went ≡ b → keyed_of rest ≡ cond b (withouts (leaving_serials w m) (keyed es)) (keyed es)
        made b e =
            out.list_is
            ∙ ap₂ (λ (t : Bool) (x : List Keyed). cond t (withouts (leaving_serials w m) x) x) e (loaded ∙ held.ranked)

        -- of a message that was in force, its serial says whether it leaves
        named : (x : Entry) → In x es → not (has_number x.of.serial (leaving_serials w m)) ≡ entry_stays ga x
        named x i =
            let l = from.placed.leads in
            ap not (change.serials x.of.serial (messages_in x.of aa change.valid (leads_entry query l x (in_left x es l.rest i)).0).0)

        some : leb (least / key_factor) touch.went ≡ true → Gone rest
        some e = record {
          stay = select (entry_stays ga) es;
          shows = made true e ∙ without_keyed (leaving_serials w m) es ∙ ap keyed (select_agree _ (entry_stays ga) es named);
          placed = placed_gone query change.split change.distinct from.placed;
          few = let a = select_length (entry_stays ga) es in let b = ranking_length query aa in omega arith;
        }

        none : leb (least / key_factor) touch.went ≡ false → Gone rest
        none e = record {
          stay = es;
          shows = made false e;
          placed =
              placed_left query change.split change.distinct from.placed
              (λ x i. below_least x (told.went x i) (leb-false (least / key_factor) touch.went e));
          few = ranking_length query aa;
        }

    -- what came goes in
    record Come (next : Ranked) : Type 0 where
      all : List Entry
      shows : keyed_of next ≡ keyed (take k all)
      placed : Placed query bound least (sa ++ ca) all

    module _ {rest next : Ranked} (g : Gone rest) (few : rest.count ≤ k) (new : WithNewest w m.newest touch.came k least rest next) where
      abbrev stay : List Entry
      stay = g.stay

      -- the key of its slot's message, and its line
      abbrev its_key : ℕ
      its_key = key_in w m.newest touch.came

      abbrev given : Keyed
      given = keyed_with (slot w m.newest).serial its_key

      cut : keyed stay ≡ keyed (take k stay)
      cut = ap keyed (sym (take_all k stay g.few))

      -- what the code makes of it, once its tests are known
      made : (a b : Bool) → ltb m.newest slots ≡ a → leb least its_key ≡ b → keyed_of next ≡ cond (a && b) (grown k given (keyed_of rest)) (keyed_of rest)
      made a b t c = new.list_is few ∙ ap₂ (λ (x y : Bool). cond (x && y) (grown k given (keyed_of rest)) (keyed_of rest)) t c

      none_comes : ltb m.newest slots ≡ false → ca ≡ [] → Come next
      none_comes t e = record {
        all = stay;
        shows = made false (leb least its_key) t refl ∙ g.shows ∙ cut;
        placed = subst (λ (ms : List Message). Placed query bound least ms stay) (sym (append-nil sa) ∙ ap (λ (c : List Message). sa ++ c) (sym e)) g.placed;
      }

      module _ (x : Message) (t : ltb m.newest slots ≡ true) (e : ca ≡ x ∷ []) (there : slot w m.newest ≡ stored x) where
        abbrev its : Entry
        its = entry (score query.terms) x

        key_is : its_key ≡ key its
        unfolding stored
        key_is =
            let u : grade_in (slot w m.newest) ≡ grade_in (stored x) = ap grade_in there in
            omega (arith, told.came x (subst (In x) (sym e) (inl refl)), level_most x.urgency)

        line_is : given ≡ keyed_entry its
        unfolding stored
        line_is = ap₂ keyed_with (ap (λ (y : Slot). y.serial) there) key_is

        enters : leb least its_key ≡ true → Come next
        enters c =
            let h = leb-true least its_key c in
            record {
              all = insert ahead its stay;
              shows =
                  made true true t c
                  ∙ ap₂ (grown k) line_is g.shows
                  ∙ sym (keyed_grown k its stay)
                  ∙ ap (λ (b : Bool). keyed (cond b (take k (insert ahead its stay)) stay))
                  (lt-ltb 0 its.score (omega (arith, key_is, g.placed.positive, level_most x.urgency)));
              placed =
                  subst (λ (c : List Message). Placed query bound least (sa ++ c) (insert ahead its stay)) (sym e)
                  (placed_come query x g.placed (omega (arith, key_is)));
            }

        stays : leb least its_key ≡ false → Come next
        stays c =
            let h = leb-false least its_key c in
            record {
              all = stay;
              shows = made true false t c ∙ g.shows ∙ cut;
              placed = subst (λ (c : List Message). Placed query bound least (sa ++ c) stay) (sym e) (placed_low query x g.placed (omega (arith, key_is)));
            }

        one_comes : Come next
        one_comes = by_bool (leb least its_key) enters stays

      come : Come next
      come = ⊎_elim (λ p. none_comes p.0 p.1) (λ p. one_comes p.0 p.1 p.2 p.3) (arrived w m.newest (come_after change))

    -- THE LAW: it is the ranking, where it is full or was all that scores
    module _ {next : Ranked} (c : Come next) (enough : length es ≡ k → k ≤ length (keyed_of next)) where
      took : take k c.all ≡ ranking query (sa ++ ca)
      took = placed_ranking query c.placed (⊎_elim (λ f. inl (long f.0)) (λ f. inr f.1) from.how)
        where
          long : length es ≡ k → k ≤ length c.all
          long full =
              let a = enough full in
              let l = ap length c.shows ∙ length-map (take k c.all) keyed_entry ∙ length-take k c.all in
              omega arith

      ranked_next : keyed_of next ≡ keyed (ranking query (sa ++ ca))
      ranked_next = c.shows ∙ ap keyed took

      -- no entry has less than what changes the list
      high_next : AtLeast least (ranking query (sa ++ ca))
      high_next = subst (AtLeast least) took (λ x i. c.placed.high x (in_take k c.all x i))

      -- the thresholds that stand are safe for it
      safe_next : length (ranking query (sa ++ ca)) ≡ k
          → threshold_sum query.terms (thresholds w q (length query.terms)) < last_score (ranking query (sa ++ ca))
      safe_next full =
          ⊎_elim
          (λ f. omega (
            arith,
            (held.settled.full f.0).safe,
            f.1,
            last_key_score es,
            last_key_score (ranking query (sa ++ ca)),
            last_high least (ranking query (sa ++ ca)) high_next (omega (arith, terms.k_least)),
          ))
          (λ f. omega (
            arith,
            sum_zero query.terms (thresholds w q (length query.terms)) (held.settled.short f.0),
            last_positive query (sa ++ ca) (omega (arith, terms.k_least)),
          ))
          from.how

      short_next : length (ranking query (sa ++ ca)) < k → (i : ℕ) → get_or (thresholds w q (length query.terms)) i 0 ≡ 0
      short_next h =
          ⊎_elim
          (λ f. absurd (omega (arith, enough f.0, ap length ranked_next, length-map (ranking query (sa ++ ca)) keyed_entry)))
          (λ f. held.settled.short f.0)
          from.how

-- ---- what the code does

module _ {w : List ℕ} {q : ℕ} {m : Move} {r : Query} {hs : List ℕ} {touch : Touch} {fs : List ℕ} (query-is : LoadedQuery w q r)
    (thresholds-are : LoadedThresholds w q hs) where
  -- a query that was right before
  module _ {w₀ : List ℕ} {o n : ℕ} {aa ga sa ca : List Message} {query : Rank.Query} (change : Change w₀ w o n m aa ga sa ca) (terms : Terms query)
      (held : Held w₀ w q o n aa query) (told : Told w q m.first m.count ga ca query touch fs) where
    loaded : Is r query
    loaded = query-is.is query terms held.says

    the_thresholds : take r.n hs ≡ thresholds w q (length query.terms)
    the_thresholds = ap (λ (n : ℕ). take n hs) loaded.n ∙ first_ones held terms thresholds-are

    unused : (i : ℕ) → r.n ≤ i → get_or hs i 0 ≡ 0
    unused i h = no_others held terms thresholds-are i (omega (arith, loaded.n))

    exact : Exact w m.first m.count fs query.terms (take r.n hs)
    exact = subst (Exact w m.first m.count fs query.terms) (sym the_thresholds) told.exact

    -- in the window a flag is set exactly where a threshold is exceeded
    exact_inside : (j : ℕ) → j < slots → in_ring m.first m.count j ≡ true
        → flag_of fs j ≡ exceeds_cells query.terms (take r.n hs) (slot w j).cells
    exact_inside j h i = exact j ∙ ap (λ (b : Bool). b && exceeds_cells query.terms (take r.n hs) (slot w j).cells) i

    module _ {least : ℕ} {l rest next : Ranked} (list_is : LoadedList w q l) (long : Sixteen l) (long-next : Sixteen next)
        (out : WithoutGone w m touch.went least l rest) (new : WithNewest w m.newest touch.came r.k least rest next)
        (least-is : least ≡ least_of query.k (keys w q)) where
      keys_loaded : keyed_of l ≡ keys w q
      unfolding keys
      keys_loaded = rw (list_is.count_is held.listed_most, list_is.serials, list_is.keys)

      count_loaded : l.count ≡ length (ranking query aa)
      count_loaded =
          sym (length_listed l.count l.serials l.keys (omega (arith, long.most, long.serials)) (omega (arith, long.most, long.keys)))
          ∙ ap length (keys_loaded ∙ held.ranked)
          ∙ length-map (ranking query aa) keyed_entry

      tidy_loaded : Tidy l
      tidy_loaded =
          let c = list_is.count_is held.listed_most in
          record { serials = rw (c, list_is.serials) held.no_serial; values = rw (c, list_is.keys) held.no_key }

      -- the list in place, but for a full one that lost its last place
      ready : (l.count ≡ r.k → next.count ≡ r.k) → Ready w q m.first m.count (sa ++ ca) query fs r hs next
      ready enough = record {
        over = over_after change;
        terms = terms;
        says = held.says;
        is = loaded;
        ranked = ranked_next change terms held least-is told from end full;
        tidy = new.tidy (out.tidy tidy_loaded);
        unused = unused;
        safe = λ e. rw the_thresholds (safe_next change terms held least-is told from end full e);
        short = λ h i.
            ⊎_elim
            (λ b. sym (get_or-take r.n hs i 0 b) ∙ rw the_thresholds (short_next change terms held least-is told from end full h i))
            (λ b. unused i b)
            (lt_or_ge i r.n);
        taken = λ j h i e. exact_inside j h i ∙ e;
      }
        where
          from : Start change terms held least-is (start change terms held least-is).0
          from = (start change terms held least-is).1

          few : rest.count ≤ query.k
          few = let a = out.within in let b = ranking_length query aa in omega (arith, count_loaded)

          end : Come change terms held least-is told from next
          end =
              come change terms held least-is told from (gone change terms held least-is told from keys_loaded out) few
              (subst (λ (k : ℕ). WithNewest w m.newest touch.came k least rest next) loaded.k new)

          full : length (ranking query aa) ≡ query.k → query.k ≤ length (keyed_of next)
          full e =
              let c = enough (count_loaded ∙ e ∙ sym loaded.k) in
              let n = length_listed next.count next.serials next.keys (omega (arith, long-next.most, long-next.serials))
              (omega (arith, long-next.most, long-next.keys)) in
              omega (arith, loaded.k)

  -- the two ways that a list changes
  pub changed_settled : {least : ℕ} {w' : List ℕ} → SettledFrom w q m.first m.count fs r hs w' → Changed w q m touch least fs w'
  changed_settled settled = record {
    keeps = settled.keeps;
    right = λ w₀ o n aa ga sa ca query change terms held least-is told.
        settled.right (sa ++ ca) query (over_after change) terms held.says (loaded change terms held told)
        (unused change terms held told) (exact_inside change terms held told);
  }

  pub changed_in_place : {least : ℕ} {l rest next : Ranked} {w' : List ℕ} → LoadedList w q l → Sixteen l → Sixteen next
      → WithoutGone w m touch.went least l rest → WithNewest w m.newest touch.came r.k least rest next
      → (l.count ≡ r.k → next.count ≡ r.k) → Retuned w q m.first m.count fs r hs next w' → Changed w q m touch least fs w'
  changed_in_place list_is long long-next out new enough retuned = record {
    keeps = retuned.keeps;
    right = λ w₀ o n aa ga sa ca query change terms held least-is told.
        retuned.right (sa ++ ca) query (ready change terms held told list_is long long-next out new least-is enough)
        (exact change terms held told);
  }

-- ---- a list that nothing changes

module _ {w₀ w : List ℕ} {q o n : ℕ} {m : Move} {aa ga sa ca : List Message} {query : Rank.Query} (change : Change w₀ w o n m aa ga sa ca)
    (terms : Terms query) (held : Held w₀ w q o n aa query) {least : ℕ} (least-is : least ≡ least_of query.k (keys w q)) {touch : Touch} {fs : List ℕ}
    (told : Told w q m.first m.count ga ca query touch fs) (no_more : touch.came < least / key_factor) (no_less : touch.went < least / key_factor) {w' : List ℕ}
    (kept : KeptList w q fs w') where
  abbrev size : ℕ
  size = length query.terms

  -- the ranking stands
  same_ranking : ranking query aa ≡ ranking query (sa ++ ca)
  same_ranking =
      sym (take_all query.k (ranking query aa) (ranking_length query aa))
      ∙ placed_ranking query (after (arrived w m.newest (come_after change))) (⊎_elim (λ f. inl (omega (arith, f.0))) (λ f. inr f.1) from.how)
    where
      from : Start change terms held least-is (start change terms held least-is).0
      from = (start change terms held least-is).1

      stay : Placed query (start change terms held least-is).0 least sa (ranking query aa)
      stay = placed_left query change.split change.distinct from.placed
          (λ x i. below_least change terms held least-is told from x (told.went x i) no_less)

      beside : {ms ms' : List Message} → ms ≡ ms' → Placed query (start change terms held least-is).0 least ms (ranking query aa)
          → Placed query (start change terms held least-is).0 least ms' (ranking query aa)
      beside e p = subst (λ (l : List Message). Placed query (start change terms held least-is).0 least l (ranking query aa)) e p

      after : ((ltb m.newest slots ≡ false) × (ca ≡ [])) ⊎ ((x : Message) × (ltb m.newest slots ≡ true) × (ca ≡ x ∷ []) × (slot w m.newest ≡ stored x))
          → Placed query (start change terms held least-is).0 least (sa ++ ca) (ranking query aa)
      after (inl p) = beside (sym (append-nil sa) ∙ ap (λ (c : List Message). sa ++ c) (sym p.1)) stay
      after (inr p) =
          let e = told.came p.0 (subst (In p.0) (sym p.2) (inl refl)) in
          beside (ap (λ (c : List Message). sa ++ c) (sym p.2)) (placed_low query p.0 stay
          (below_least change terms held least-is told from p.0 (omega arith) no_more))

  same_thresholds : thresholds w' q size ≡ thresholds w q size
  unfolding thresholds
  same_thresholds = keeps_part kept.keeps (thresholds_in q) size (inl (let t = terms.terms.at_most in omega arith))

  same_keys : keys w' q ≡ keys w q
  unfolding keys
  same_keys =
      rw (
        keeps_at kept.keeps (listed_in q) (inl (omega arith)),
        keeps_part kept.keeps (serials_in q) most_listed (inl (omega arith)),
        keeps_part kept.keeps (keys_in q) most_listed (inl (omega arith)),
      )

  flagged : Exact w' m.first m.count (flags w' q) query.terms (thresholds w' q size)
  flagged j =
      ap (λ (xs : List ℕ). flag_of xs j) kept.flags_are
      ∙ told.exact j
      ∙ rw same_thresholds
      (cells_same w w' query.terms (thresholds w q size) m.first m.count j
      (λ i. let h = slot_in m.first m.count j i in slot_kept kept.keeps j h (inl (omega arith))))

  above : candidates w' w' q m.first m.count ≡ serials (Threshold.candidates query.terms (thresholds w' q size) (sa ++ ca))
  above =
      candidates_are q query.terms (thresholds w' q size) change.then_below
      (over_kept kept.keeps (omega arith) m.first m.count change.then_below (over_after change)) flagged

  pub still_holds : Holds w' q m.first m.count (sa ++ ca) query
  still_holds = record {
    says = says_same kept.keeps (inl (omega arith)) held.says;
    settled =
        rw (same_thresholds, same_keys)
        (settled_again query aa (sa ++ ca) (held_of w₀ w q o n size) (candidates w' w' q m.first m.count) held.settled same_ranking
        (rw same_thresholds at above));
    ranked = same_keys ∙ held.ranked ∙ ap keyed same_ranking;
    flagged = flagged;
    no_threshold = λ i a z. keeps_at kept.keeps (thresholds_in q + i) (inl (omega arith)) ∙ held.no_threshold i a z;
    listed_most = rw (keeps_at kept.keeps (listed_in q) (inl (omega arith))) held.listed_most;
    no_serial =
        rw (keeps_at kept.keeps (listed_in q) (inl (omega arith)), keeps_part kept.keeps (serials_in q) most_listed (inl (omega arith))) held.no_serial;
    no_key =
        rw (keeps_at kept.keeps (listed_in q) (inl (omega arith)), keeps_part kept.keeps (keys_in q) most_listed (inl (omega arith))) held.no_key;
  }
