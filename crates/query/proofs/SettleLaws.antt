-- When what is kept of a query is right: the thresholds that settling ends with, the flags and list beside them, and where they come from.
-- Assumes nothing.
use Prim.Native.Nat.{ℕ, zero, suc, ◌*◌, ◌/◌, ◌%◌, ◌≤◌, ◌<◌, suc-le-suc}
use native.Mathlib.Nat.{mul-zero, mul-le-mul_right, eq-or-lt_of_le, not-suc-le-zero, le_of_suc-le-suc}
use native.Mathlib.Omega.{arith}
use mathlib.Core.Path.{◌≡◌, refl, sym, ap, ap₂, ◌∙◌, subst}
use mathlib.Core.Bool.{Bool, true, false, ◌&&◌, ◌||◌, true≢false, false≢true}
use mathlib.Core.Logic.{◌⊎◌, inl, inr, ⊎_elim}
use mathlib.Core.List.{List, [], ◌∷◌, map, map-map}
use lib.ListN.{length, get_or, take, replicate, get_or-replicate, length-map, length-take, get_or-eq_default}
use lib.Seq.{get_or-take, length-take-le}
use lib.Dec.{ltb}
use borrow.Author.Tests.{ltb-true, ltb-false, lt-ltb}
use Rattle.paper.specs.Frame.{Pair, most_listed}
use Rattle.paper.specs.Impact.{top, score}
use Rattle.paper.specs.Order.{In, entry_at}
use Rattle.paper.specs.Rank as Rank
use Rattle.paper.specs.Rank.{Entry, ranking}
use Rattle.paper.specs.Sort.{select}
use Rattle.paper.specs.Window.{Message}
use Rattle.paper.specs.Write.{side_by_side}
use Rattle.paper.specs.Sound.{Messages, Terms}
use Rattle.paper.specs.Threshold.{exceeds, exceeds_by, threshold_sum, last_score, Tight, Settled}
use Rattle.paper.specs.Layout.{slots}
use Rattle.paper.proofs.RankLaws.{ranking_right, ranking_length}
use Rattle.paper.proofs.Tests.{by_bool}
use Rattle.paper.proofs.SortLaws.{select_all, select_in, in_select}
use Rattle.paper.proofs.ThresholdLaws.{Safe, candidates_enough}
use Rattle.wire.specs.Bits.{odd, bits}
use Rattle.impact.specs.Cell.{lookup}
use Rattle.rank.specs.declared.Ranked.{Ranked}
use Rattle.rank.specs.Listing.{keyed_entry, keyed, keyed_of, shown, last_score_of}
use Rattle.rank.specs.Weights.{weighted_sum, Raised}
use Rattle.rank.proofs.LineLaws.{length_listed}
use Rattle.rank.proofs.PaperLaws.{shown_keyed, keyed_last_score, threshold_sum_lem, raised_tight}
use Rattle.window.specs.Slot.{slot, stored, ring, live}
use Rattle.window.proofs.SlotLaws.{slot_kept, live_in}
use Rattle.candidates.specs.declared.Query.{Query}
use Rattle.candidates.specs.Match.{exceeds_cells, scored}
use Rattle.candidates.specs.Flags.{flag_of, in_ring}
use Rattle.candidates.specs.Post.{terms_of, line_in, grows}
use Rattle.candidates.specs.Rows.{Having, Rows, RankedRows, SiftedRows}
use Rattle.candidates.proofs.MatchLaws.{slot_in, in_ring_lem, ring_in, ranking_stored, taken_live}
use Rattle.candidates.proofs.RowLaws.{having_live, having_grows, having_exceeds}
use Rattle.query.specs.Record.{thresholds, flags, keys, kept_of, Says, Holds}
use Rattle.query.specs.Post.{InRange, Is, sum_of, Lifted, secure, StoredKept, Over, Shown, Ready, Exact}
use Rattle.query.proofs.ChosenLaws.{messages_select, chosen, candidates_are}
use Rattle.query.proofs.LiftLaws.{secure_safe}
use Rattle.query.proofs.RecordLaws.{cells_same, says_same}
use Rattle.query.proofs.KeptLaws.{over_kept, thresholds_stored, threshold_stored, flags_stored, keys_stored}

-- ---- lower thresholds

-- whoever exceeds one of some thresholds exceeds one of lower ones
exceeds_lower : (qs : List Pair) (hs hs' cs : List ℕ) → length hs' ≤ length hs → ((i : ℕ) → get_or hs i 0 ≤ get_or hs' i 0)
    → exceeds_cells qs hs' cs ≡ true → exceeds_cells qs hs cs ≡ true
unfolding exceeds_by
exceeds_lower [] hs hs' cs l low e = e
exceeds_lower (q ∷ qs) hs [] cs l low e = absurd (false≢true e)
exceeds_lower (q ∷ qs) [] (h' ∷ hs') cs l low e = absurd (not-suc-le-zero l)
exceeds_lower (q ∷ qs) (h ∷ hs) (h' ∷ hs') cs l low e =
    go (ltb h (lookup q.term cs)) refl (ltb h' (lookup q.term cs)) refl e (exceeds_lower qs hs hs' cs (le_of_suc-le-suc l) (λ i. low (suc i)))
  where
    go : (a : Bool) → ltb h (lookup q.term cs) ≡ a → (b : Bool) → ltb h' (lookup q.term cs) ≡ b → (b || exceeds_cells qs hs' cs) ≡ true
        → (exceeds_cells qs hs' cs ≡ true → exceeds_cells qs hs cs ≡ true) → (a || exceeds_cells qs hs cs) ≡ true
    go true p b r e ih = refl
    go false p true r e ih = let z = low 0 in absurd (false≢true (sym p ∙ lt-ltb h (lookup q.term cs) (omega (arith, ltb-true))))
    go false p false r e ih = ih e

pub lt_or_ge : (i n : ℕ) → (i < n) ⊎ (n ≤ i)
lt_or_ge i n = go (ltb i n) refl
  where
    go : (b : Bool) → ltb i n ≡ b → (i < n) ⊎ (n ≤ i)
    go true e = inl (ltb-true i n e)
    go false e = inr (ltb-false i n e)

-- no weight is 0, so a sum of 0 has no value above 0
sum_none : (n : ℕ) (ws hs : List ℕ) → weighted_sum n ws hs ≡ 0 → ((i : ℕ) → i < n → 1 ≤ get_or ws i 0) → (i : ℕ) → i < n → get_or hs i 0 ≡ 0
unfolding weighted_sum
sum_none zero ws hs z p i h = absurd (not-suc-le-zero h)
sum_none (suc n) [] hs z p i h = absurd (not-suc-le-zero (p 0 (omega arith)))
sum_none (suc n) (w ∷ ws) [] z p i h = refl
sum_none (suc n) (w ∷ ws) (x ∷ hs) z p zero h = omega (arith, mul-le-mul_right x (p 0 (omega arith)))
sum_none (suc n) (w ∷ ws) (x ∷ hs) z p (suc i) h = sum_none n ws hs (omega arith) (λ k m. p (suc k) (suc-le-suc m)) i (le_of_suc-le-suc h)

-- the first n places of a list, and 0 past them
abbrev Cut : ℕ → List ℕ → ℕ → Type 0
Cut n xs i = ((get_or (take n xs) i 0 ≡ get_or xs i 0) × (i < n)) ⊎ ((get_or (take n xs) i 0 ≡ 0) × (n ≤ i))

cut : (n : ℕ) (xs : List ℕ) (i : ℕ) → Cut n xs i
cut n xs i =
    ⊎_elim
    (λ h. inl (get_or-take n xs i 0 h, h))
    (λ h. inr (get_or-eq_default (take n xs) 0 (omega (arith, length-take n xs)), h))
    (lt_or_ge i n)

-- ---- what the code loaded and what it means

side_long : (n : ℕ) (ts us : List ℕ) → n ≤ length (side_by_side n ts us) → n ≤ length ts
unfolding side_by_side
side_long zero ts us h = omega arith
side_long (suc n) [] us h = absurd (not-suc-le-zero h)
side_long (suc n) (t ∷ ts) [] h = absurd (not-suc-le-zero h)
side_long (suc n) (t ∷ ts) (u ∷ us) h = suc-le-suc (side_long n ts us (le_of_suc-le-suc h))

module _ {r : Query} {query : Rank.Query} (is : Is r query) where
  terms_long : r.n ≤ length r.terms
  terms_long = let e = ap length is.terms in side_long r.n r.terms r.weights (omega (arith, is.n))

  pub sum_is : (hs : List ℕ) → sum_of r hs ≡ threshold_sum query.terms (take r.n hs)
  sum_is hs = sym (threshold_sum_lem r.n r.terms r.weights hs terms_long) ∙ ap (λ (qs : List Pair). threshold_sum qs (take r.n hs)) is.terms

  raised_is : (kth : ℕ) (hs hs' : List ℕ) → Raised r.n r.weights hs kth hs' → Tight query.terms (take r.n hs') kth
  raised_is kth hs hs' f =
      subst (λ (qs : List Pair). Tight qs (take r.n hs') kth) is.terms (raised_tight r.n kth r.terms r.weights hs hs' terms_long f)

-- a list of at most sixteen in its two arrays
pub record Sixteen (l : Ranked) : Type 0 where
  pub most : l.count ≤ most_listed
  pub serials : length l.serials ≡ most_listed
  pub keys : length l.keys ≡ most_listed

module _ {l : Ranked} (es : List Entry) (long : Sixteen l) (shows : keyed_of l ≡ keyed es) where
  pub count_is : l.count ≡ length es
  count_is =
      sym (length_listed l.count l.serials l.keys (omega (arith, long.most, long.serials)) (omega (arith, long.most, long.keys)))
      ∙ ap length shows
      ∙ length-map es keyed_entry

  pub last_is : last_score_of (keyed_of l) ≡ last_score es
  last_is = ap last_score_of shows ∙ keyed_last_score es

-- ---- the thresholds that settling ends with

-- they are at least those it began with, and right for the ranking
record Next (query : Rank.Query) (ms : List Message) (n : ℕ) (hs hs' : List ℕ) : Type 0 where
  higher : (i : ℕ) → get_or hs i 0 ≤ get_or hs' i 0
  unused : (i : ℕ) → n ≤ i → get_or hs' i 0 ≡ 0
  in_scale : (i : ℕ) → i < n → get_or hs' i 0 ≤ top
  full : length (ranking query ms) ≡ query.k → Tight query.terms (take n hs') (last_score (ranking query ms))
  short : length (ranking query ms) < query.k → (i : ℕ) → get_or hs' i 0 ≡ 0

module _ {w : List ℕ} {q o n : ℕ} {ms : List Message} {query : Rank.Query} {fs : List ℕ} {r : Query} {hs hs' : List ℕ} {l : Ranked} where
  next : Ready w q o n ms query fs r hs l → Sixteen l → Lifted r hs l hs' → Next query ms r.n hs hs'
  next ready long lifted = ⊎_elim full short (eq-or-lt_of_le (ranking_length query ms))
    where
      counted : l.count ≡ length (ranking query ms)
      counted = count_is (ranking query ms) long ready.ranked

      full : length (ranking query ms) ≡ query.k → Next query ms r.n hs hs'
      full e =
          let last = last_is (ranking query ms) long ready.ranked in
          let below : sum_of r hs < last_score_of (keyed_of l) = omega (arith, ready.safe e, sum_is ready.is hs) in
          let f = lifted.room (counted ∙ e ∙ sym ready.is.k, below) in
          record {
            higher = f.higher;
            unused = λ i h. f.others i h ∙ ready.unused i h;
            in_scale = f.in_scale;
            full = λ z. subst (Tight query.terms (take r.n hs')) last (raised_is ready.is (last_score_of (keyed_of l)) hs hs' f);
            short = λ z. absurd (omega arith);
          }

      short : length (ranking query ms) < query.k → Next query ms r.n hs hs'
      short h =
          let zeros = lifted.none (λ room. omega (arith, counted, room.0, ready.is.k)) in
          let below = ready.short h in
          record {
            higher = λ i. omega (arith, below i);
            unused = λ i z. zeros i;
            in_scale = λ i z. omega (arith, zeros i);
            full = λ e. absurd (omega arith);
            short = λ z. zeros;
          }

-- ---- what is stored at the end

module _ {w : List ℕ} {q o n : ℕ} {fs : List ℕ} {r : Query} {hs hs' : List ℕ} {l : Ranked} (range : InRange r) (long : Sixteen l) (eight : length hs ≡ 8)
    (eight' : length hs' ≡ 8) (lifted : Lifted r hs l hs') {ms : List Message} {query : Rank.Query} (ready : Ready w q o n ms query fs r hs l) where
  settled_by : Next query ms r.n hs hs'
  settled_by = next ready long lifted

  most : r.n ≤ 8
  most = range.n_most

  -- whoever exceeds one of the higher thresholds is flagged
  pub still_taken : (j : ℕ) → j < slots → in_ring o n j ≡ true → exceeds_cells query.terms (take r.n hs') (slot w j).cells ≡ true → flag_of fs j ≡ true
  still_taken j h i e =
      ready.taken j h i
      (exceeds_lower query.terms (take r.n hs) (take r.n hs') (slot w j).cells (simp length-take (omega (arith, most))) higher e)
    where
      higher : (i : ℕ) → get_or (take r.n hs) i 0 ≤ get_or (take r.n hs') i 0
      higher i =
          ⊎_elim
          (λ a. ⊎_elim (λ b. omega (arith, settled_by.higher i)) (λ b. absurd (omega arith)) (cut r.n hs' i))
          (λ a. omega arith)
          (cut r.n hs i)

  -- beside the flags of those thresholds
  module _ {kept-fs w' : List ℕ} (ho : o < slots) (exact : Exact w o n kept-fs query.terms (take r.n hs')) (kept : StoredKept q hs' l kept-fs w w') where
    over' : Over w' o n ms
    over' = over_kept kept.keeps (omega arith) o n ho ready.over

    -- the first thresholds stored
    first_ones : thresholds w' q (length query.terms) ≡ take r.n hs'
    first_ones = thresholds_stored kept (length query.terms) (omega (arith, most, ready.is.n)) ∙ ap (λ (m : ℕ). take m hs') (sym ready.is.n)

    flagged : (j : ℕ)
        → flag_of (flags w' q) j ≡ (in_ring o n j && exceeds_cells query.terms (thresholds w' q (length query.terms)) (slot w' j).cells)
    flagged j =
        ap (λ (xs : List ℕ). flag_of xs j) (flags_stored kept)
        ∙ exact j
        ∙ rw first_ones (cells_same w w' query.terms (take r.n hs') o n j (λ i. let h = slot_in o n j i in slot_kept kept.keeps j h (inl (omega arith))))

    ranked : keys w' q ≡ keyed (ranking query ms)
    ranked = keys_stored kept ∙ ready.ranked

    settled : Settled query ms (kept_of w' q o n (length query.terms))
    settled = record {
      one_each = ap length first_ones ∙ length-take-le r.n hs' (omega (arith, most)) ∙ ready.is.n;
      in_scale = λ i. rw first_ones (⊎_elim (λ a. omega (arith, settled_by.in_scale i a.1)) (λ a. omega arith) (cut r.n hs' i));
      ranked = ap (map shown) ranked ∙ shown_keyed (ranking query ms);
      above = candidates_are q query.terms (thresholds w' q (length query.terms)) ho over' flagged;
      full = λ e. rw first_ones (settled_by.full e);
      short = λ h i. rw first_ones (⊎_elim (λ a. a.0 ∙ settled_by.short h i) (λ a. a.0) (cut r.n hs' i));
    }

    pub finished : Holds w' q o n ms query
    finished = record {
      says = says_same kept.keeps (inl (omega arith)) ready.says;
      settled = settled;
      ranked = ranked;
      flagged = flagged;
      no_threshold = λ i h k. threshold_stored kept i k ∙ settled_by.unused i (omega (arith, ready.is.n));
      listed_most = omega (arith, long.most, kept.count);
      no_serial = rw (kept.count, kept.serials) ready.tidy.serials;
      no_key = rw (kept.count, kept.keys) ready.tidy.values;
    }

-- all of the slots picked
pub having_picked : {w : List ℕ} {r : Query} {js xs : List ℕ} → js ≡ xs → Having w r xs js
having_picked {w} {r} {js} {xs} e = record {
  test = λ j. true;
  kept = e ∙ sym (select_all (λ j. true) xs (λ j m. refl));
  silent = λ x k j z. absurd (true≢false z);
}

-- of the messages looked at, which are those flagged that have one of the terms, those that exceed them
module _ {w : List ℕ} {q o n : ℕ} {fs : List ℕ} {r : Query} {hs hs' : List ℕ} {l : Ranked} (range : InRange r) (long : Sixteen l) (eight : length hs ≡ 8)
    (eight' : length hs' ≡ 8) (lifted : Lifted r hs l hs') {ms : List Message} {query : Rank.Query} (ready : Ready w q o n ms query fs r hs l)
    (ho : o < slots) {js rows kept-fs : List ℕ} (picked : Having w r (select (flag_of fs) (ring o n)) js) (looked : Rows w js r rows)
    (sifted : SiftedRows js r rows hs' kept-fs) where
  pub sifted_exact : Exact w o n kept-fs query.terms (take r.n hs')
  sifted_exact j = go (in_ring o n j) (flag_of fs j) refl refl
    where
      -- whoever was looked at passed the test, is in the window, and flagged
      among : In j js → (picked.test j ≡ true) × (in_ring o n j ≡ true) × (flag_of fs j ≡ true)
      among m =
          let t = select_in picked.test j (select (flag_of fs) (ring o n)) (subst (In j) picked.kept m) in
          let p = select_in (flag_of fs) j (ring o n) t.0 in
          (t.1, (in_ring_lem o n j ho p.0).1, p.1)

      -- one that is flagged: whoever failed the test has none of the terms
      tested : (b : Bool) → picked.test j ≡ b → in_ring o n j ≡ true → flag_of fs j ≡ true
          → flag_of kept-fs j ≡ exceeds_cells (terms_of r) (take r.n hs') (slot w j).cells
      tested true e i t =
          sifted.right w looked ready.is.rising ready.is.known j
          (subst (In j) (sym picked.kept)
          (in_select picked.test j (select (flag_of fs) (ring o n)) (in_select (flag_of fs) j (ring o n) (ring_in o n j ho (slot_in o n j i) i) t) e))
      tested false e i t =
          sifted.others j (λ m. false≢true (sym e ∙ (among m).0)) ∙ sym (having_exceeds picked ready.is.rising ready.is.known (take r.n hs') j e)

      go : (b f : Bool) → in_ring o n j ≡ b → flag_of fs j ≡ f → flag_of kept-fs j ≡ (b && exceeds_cells query.terms (take r.n hs') (slot w j).cells)
      go true true i t =
          tested (picked.test j) refl i t ∙ ap (λ (qs : List Pair). exceeds_cells qs (take r.n hs') (slot w j).cells) ready.is.terms
      go true false i t =
          sifted.others j (λ m. false≢true (sym t ∙ (among m).2))
          ∙ by_bool (exceeds_cells query.terms (take r.n hs') (slot w j).cells)
          (λ e. absurd (false≢true (sym t ∙ still_taken range long eight eight' lifted ready j (slot_in o n j i) i e)))
          (λ e. sym e)
      go false f i t = sifted.others j (λ m. false≢true (sym i ∙ (among m).1))

-- ---- a ranking's last score

last_scores : (f : ℕ → Entry) (ps : List ℕ) → ((p : ℕ) → In p ps → 0 < (f p).score) → 1 ≤ length ps → 0 < last_score (map f ps)
unfolding last_score
last_scores f [] h l = absurd (not-suc-le-zero l)
last_scores f (p ∷ []) h l = h p (inl refl)
last_scores f (p ∷ r ∷ ps) h l = last_scores f (r ∷ ps) (λ x m. h x (inr m)) (omega arith)

-- only positive scores are ranked
pub last_positive : (query : Rank.Query) (ms : List Message) → 1 ≤ length (ranking query ms) → 0 < last_score (ranking query ms)
last_positive query ms h =
    let r = ranking_right query ms in
    let f : ℕ → Entry = entry_at (score query.terms) ms in
    subst (λ (es : List Entry). 0 < last_score es) (sym r.shown)
    (last_scores f r.places (λ p m. (r.scoring p m).1) (omega (arith, ap length r.shown, length-map r.places f)))

-- ---- from the whole window, or from the candidates

-- the list of slots that hold messages is those messages' ranking
pub listed_is : {r : Query} {query : Rank.Query} (w js : List ℕ) (ms : List Message) → Is r query → map (slot w) js ≡ map stored ms → Messages ms
    → grows r.k [] (map (line_in w r) js) ≡ keyed (ranking query ms)
listed_is {r} {query} w js ms is e v =
    ap₂ (λ (k : ℕ) (qs : List Pair). grows k [] (map (λ j. scored qs (slot w j)) js)) is.k is.terms
    ∙ ap (grows query.k []) (sym (map-map (scored query.terms) (slot w) js) ∙ ap (map (scored query.terms)) e)
    ∙ ranking_stored query ms v

module _ {w : List ℕ} {q o n : ℕ} {fs : List ℕ} {r : Query} {l : Ranked} {js rows : List ℕ} (hs : List ℕ)
    (picked : Having w r (select (flag_of fs) (ring o n)) js) (looked : Rows w js r rows)
    (by : RankedRows w js r rows l) (eight : length hs ≡ 8) (range : InRange r) (long : Sixteen l) (sure : secure r hs l ≡ true)
    {ms : List Message} {query : Rank.Query} (over : Over w o n ms) (terms : Terms query) (says : Says w q query) (is : Is r query)
    (unused : (i : ℕ) → r.n ≤ i → get_or hs i 0 ≡ 0) (shown : Shown w o n fs ms query.terms (take r.n hs))
    (taken : (j : ℕ) → j < slots → in_ring o n j ≡ true → exceeds_cells query.terms (take r.n hs) (slot w j).cells ≡ true → flag_of fs j ≡ true) where
  abbrev those : List Message
  those = select shown.test ms

  abbrev sum : ℕ
  sum = threshold_sum query.terms (take r.n hs)

  listed_those : keyed_of l ≡ keyed (ranking query those)
  listed_those =
      by.right looked is.rising is.known
      ∙ having_grows picked is.rising is.known r.k
      ∙ sym (having_grows (having_live {q = r} (flag_of fs) (ring o n)) is.rising is.known r.k)
      ∙ listed_is w (select (flag_of fs) (live w (ring o n))) those is shown.shows (messages_select shown.test ms over.valid)

  safe_those : Safe sum query.k (ranking query those)
  safe_those =
      let c = count_is (ranking query those) long listed_those in
      let m = ranking_length query those in
      ⊎_elim
      (λ z. inl (sym (sum_is is hs) ∙ z))
      (λ p. inr (omega (arith, is.k), omega (arith, last_is (ranking query those) long listed_those, sum_is is hs)))
      (secure_safe r hs l sure)

  same : ranking query those ≡ ranking query ms
  same =
      candidates_enough query (take r.n hs) (length-take-le r.n hs (omega (arith, range.n_most)) ∙ is.n) shown.test shown.covers ms safe_those

  safe_all : Safe sum query.k (ranking query ms)
  safe_all = subst (Safe sum query.k) same safe_those

  none : sum_of r hs ≡ 0 → (i : ℕ) → get_or hs i 0 ≡ 0
  none z i =
      ⊎_elim
      (λ h. sum_none r.n r.weights hs z (λ k m. range.weights_least k (omega (arith, range.n_most))) i h)
      (λ h. unused i h)
      (lt_or_ge i r.n)

  -- the messages looked at, whose list is secure
  pub ready_shown : Ready w q o n ms query fs r hs l
  ready_shown = record {
    over = over;
    terms = terms;
    says = says;
    is = is;
    ranked = listed_those ∙ ap keyed same;
    tidy = by.tidy;
    unused = unused;
    safe = λ e. ⊎_elim (λ z. omega (arith, last_positive query ms (omega (arith, terms.k_least)))) (λ p. p.1) safe_all;
    short = λ h i. ⊎_elim (λ z. none (sum_is is hs ∙ z) i) (λ p. absurd (omega arith)) safe_all;
    taken = taken;
  }

-- ---- what is flagged

-- those that exceed a threshold
pub shown_exact : {w : List ℕ} {o n : ℕ} {fs : List ℕ} {ms : List Message} {qs : List Pair} {hs : List ℕ} → o < slots → Over w o n ms
    → ((j : ℕ) → j < slots → in_ring o n j ≡ true → flag_of fs j ≡ exceeds_cells qs hs (slot w j).cells) → Shown w o n fs ms qs hs
shown_exact {w} {o} {n} {fs} {ms} {qs} {hs} ho over exact = record {
  test = λ m. exceeds qs hs m.pairs;
  covers = λ m e. e;
  shows = ap (map (slot w)) (taken_live w (ring o n) qs hs (flag_of fs) inside) ∙ chosen w o n ms over qs hs (flag_of fs) inside;
}
  where
    inside : (j : ℕ) → In j (ring o n) → flag_of fs j ≡ exceeds_cells qs hs (slot w j).cells
    inside j m = let i = in_ring_lem o n j ho m in exact j i.0 i.1

-- all of the window
abbrev pub all_flags : List ℕ
all_flags = replicate 9 4294967295

pub all_flagged : (j : ℕ) → j < slots → flag_of all_flags j ≡ true
unfolding flag_of bits odd
all_flagged j h =
    let ones : bits 32 4294967295 ≡ replicate 32 true = refl in
    rw (get_or-replicate {A = ℕ} 9 (j / 32) 4294967295 0 (omega arith), ones) (get_or-replicate 32 (j % 32) true false (omega arith))

all_picked : (js : List ℕ) → ((j : ℕ) → In j js → j < slots) → select (flag_of all_flags) js ≡ js
all_picked js below = select_all (flag_of all_flags) js (λ j m. all_flagged j (below j m))

-- of all slots, those with one of the terms
pub having_all : {w : List ℕ} {r : Query} {js : List ℕ} (o n : ℕ) → o < slots → Having w r (ring o n) js → Having w r (select (flag_of all_flags) (ring o n)) js
having_all {w} {r} {js} o n ho h = subst (λ (xs : List ℕ). Having w r xs js) (sym (all_picked (ring o n) (λ j m. (in_ring_lem o n j ho m).0))) h

pub shown_all : {w : List ℕ} {o n : ℕ} {ms : List Message} {qs : List Pair} {hs : List ℕ} → o < slots → Over w o n ms → Shown w o n all_flags ms qs hs
shown_all {w} {o} {n} {ms} ho over = record {
  test = λ m. true;
  covers = λ m e. refl;
  shows =
      ap (map (slot w)) (all_picked (live w (ring o n)) (λ j m. (in_ring_lem o n j ho (live_in w (ring o n) j m).0).0))
      ∙ over.shows
      ∙ sym (ap (map stored) (select_all (λ m. true) ms (λ m i. refl)));
}

-- the sum of thresholds of zero
pub zero_sum : (n : ℕ) (ws hs : List ℕ) → ((i : ℕ) → get_or hs i 0 ≡ 0) → weighted_sum n ws hs ≡ 0
unfolding weighted_sum
zero_sum zero ws hs z = refl
zero_sum (suc n) [] hs z = refl
zero_sum (suc n) (w ∷ ws) [] z = refl
zero_sum (suc n) (w ∷ ws) (h ∷ hs) z = let ih = zero_sum n ws hs (λ i. z (suc i)) in omega (arith, ap (λ (v : ℕ). w * v) (z 0), mul-zero w)
