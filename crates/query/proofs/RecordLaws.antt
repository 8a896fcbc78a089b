-- What a record says depends on its own words and on the slots of the window; which are in use. Assumes nothing.
use Prim.Native.Nat.{ℕ, ◌+◌, ◌-◌, ◌≤◌, ◌<◌}
use native.Mathlib.Nat.{add-zero}
use native.Mathlib.Omega.{arith}
use mathlib.Core.Path.{◌≡◌, refl, sym, ap, ap₂, ◌∙◌, subst}
use mathlib.Core.Logic.{◌⊎◌, inl, inr, ⊎_elim}
use mathlib.Core.Bool.{Bool, true, false, not, ◌&&◌}
use mathlib.Core.List.{List, [], ◌∷◌, map}
use mathlib.Core.Option.{Option, none, some}
use lib.ListN.{length, get_or, take, drop, length-take, length-drop}
use lib.Dec.{eqb}
use borrow.Author.Tests.{eq-eqb, ne_eqb}
use Rattle.paper.specs.Frame.{Pair, most_listed}
use Rattle.paper.specs.Log.{is_in_use}
use Rattle.paper.specs.Order.{In}
use Rattle.paper.specs.Rank.{Query}
use Rattle.paper.specs.Sort.{select}
use Rattle.paper.specs.Sound.{Terms}
use Rattle.paper.specs.Window.{Message}
use Rattle.paper.specs.Layout.{slots, record_at, record_words, size_in, pairs_in, listed_in, thresholds_in, serials_in, keys_in, flags_in, flag_words}
use Rattle.paper.proofs.SortLaws.{select_in}
use Rattle.memory.specs.Keeps.{Keeps}
use Rattle.memory.proofs.KeepsLaws.{keeps_at, same_part}
use Rattle.window.specs.Slot.{slot, ring}
use Rattle.candidates.proofs.MatchLaws.{slot_in, in_ring_lem}
use Rattle.candidates.specs.Match.{exceeds_cells}
use Rattle.candidates.specs.Flags.{flag_of, in_ring}
use Rattle.query.specs.Record.{thresholds, flags, keys, candidates, Says, Held, HeldAt, HoldsAt, SameRecord}

-- functions that agree on a list's elements
pub map_agree : {A B : Type 0} (f g : A → B) (l : List A) → ((x : A) → In x l → f x ≡ g x) → map f l ≡ map g l
map_agree f g [] h = refl
map_agree f g (x ∷ l) h = ap₂ ◌∷◌ (h x (inl refl)) (map_agree f g l (λ y m. h y (inr m)))

-- a candidate's test reads its slot, where that is in the window
pub cells_same : (w w' : List ℕ) (qs : List Pair) (hs : List ℕ) (o n j : ℕ) → (in_ring o n j ≡ true → slot w' j ≡ slot w j)
    → (in_ring o n j && exceeds_cells qs hs (slot w j).cells) ≡ (in_ring o n j && exceeds_cells qs hs (slot w' j).cells)
cells_same w w' qs hs o n j same = go (in_ring o n j) same
  where
    go : (b : Bool) → (b ≡ true → slot w' j ≡ slot w j) → (b && exceeds_cells qs hs (slot w j).cells) ≡ (b && exceeds_cells qs hs (slot w' j).cells)
    go true e = ap (λ x. exceeds_cells qs hs x.cells) (sym (e refl))
    go false e = refl

-- ---- words that are left alone

-- the query stands before what is kept of it
says_by : (w w' : List ℕ) {q : ℕ} {query : Query} → ((i : ℕ) → record_at q ≤ i → i < listed_in q → get_or w' i 0 ≡ get_or w i 0)
    → Says w q query → Says w' q query
says_by w w' {q} same s = record {
  k = same (record_at q) (omega arith) (omega arith) ∙ s.k;
  size = same (size_in q) (omega arith) (omega arith) ∙ s.size;
  pairs = λ i h. same (pairs_in q + i) (omega arith) (omega arith) ∙ s.pairs i h;
}

module _ {a e : ℕ} {w w' : List ℕ} (kept : Keeps a e w w') where
  pub says_same : {q : ℕ} {query : Query} → (listed_in q ≤ a) ⊎ (e ≤ record_at q) → Says w q query → Says w' q query
  says_same out = says_by w w' (λ i l h. keeps_at kept i (⊎_elim (λ d. inl (omega arith)) (λ d. inr (omega arith)) out))

  pub record_same : (q : ℕ) → (record_at q + record_words ≤ a) ⊎ (e ≤ record_at q) → SameRecord w w' q
  record_same q out i h = keeps_at kept (record_at q + i) (⊎_elim (λ d. inl (omega arith)) (λ d. inr (omega arith)) out)

-- slots that are left alone
module _ (w w' : List ℕ) (o n : ℕ) (first : o < slots) (same : (j : ℕ) → j < slots → in_ring o n j ≡ true → slot w' j ≡ slot w j) where
  candidates_seen : (v : List ℕ) (q : ℕ) → candidates w' v q o n ≡ candidates w v q o n
  unfolding candidates
  candidates_seen v q =
      map_agree (λ j. (slot w' j).serial) (λ j. (slot w j).serial) (select (flag_of (flags v q)) (ring o n))
      (λ j m. let r = in_ring_lem o n j first (select_in (flag_of (flags v q)) j (ring o n) m).0 in ap (λ x. x.serial) (same j r.0 r.1))

  seen_same : {v : List ℕ} {q : ℕ} {ms : List Message} {query : Query} → Held w v q o n ms query → Held w' v q o n ms query
  seen_same {v} {q} {ms} {query} h = record {
    says = h.says;
    settled = rw (candidates_seen v q) h.settled;
    ranked = h.ranked;
    flagged = λ j. h.flagged j ∙ cells_same w w' query.terms (thresholds v q (length query.terms)) o n j (λ e. same j (slot_in o n j e) e);
    no_threshold = h.no_threshold;
    listed_most = h.listed_most;
    no_serial = h.no_serial;
    no_key = h.no_key;
  }

-- a whole record, word for word the same
module _ (w w' : List ℕ) (q : ℕ) (long : length w' ≡ length w) (record_is : SameRecord w w' q) where
  word_same : (i : ℕ) → record_at q ≤ i → i < record_at q + record_words → get_or w' i 0 ≡ get_or w i 0
  word_same i l h =
      let e : record_at q + (i - record_at q) ≡ i = omega arith in
      subst (λ (j : ℕ). get_or w' j 0 ≡ get_or w j 0) e (record_is (i - record_at q) (omega arith))

  part_same : (i n : ℕ) → record_at q ≤ i → i + n ≤ record_at q + record_words → take n (drop i w') ≡ take n (drop i w)
  part_same i n l h = same_part w' w i n (simp (length-take, length-drop) (omega arith)) (λ j x y. word_same j (omega arith) (omega arith))

  pub thresholds_same : (n : ℕ) → n ≤ 8 → thresholds w' q n ≡ thresholds w q n
  unfolding thresholds
  thresholds_same n h = part_same (thresholds_in q) n (omega arith) (omega arith)

  flags_same : flags w' q ≡ flags w q
  unfolding flags
  flags_same = part_same (flags_in q) flag_words (omega arith) (omega arith)

  size_same : get_or w' (listed_in q) 0 ≡ get_or w (listed_in q) 0
  size_same = word_same (listed_in q) (omega arith) (omega arith)

  serials_same : take most_listed (drop (serials_in q) w') ≡ take most_listed (drop (serials_in q) w)
  serials_same = part_same (serials_in q) most_listed (omega arith) (omega arith)

  keys_part_same : take most_listed (drop (keys_in q) w') ≡ take most_listed (drop (keys_in q) w)
  keys_part_same = part_same (keys_in q) most_listed (omega arith) (omega arith)

  pub keys_same : keys w' q ≡ keys w q
  unfolding keys
  keys_same = rw (size_same, serials_same, keys_part_same)

  candidates_same : (w₀ : List ℕ) (o n : ℕ) → candidates w₀ w' q o n ≡ candidates w₀ w q o n
  unfolding candidates
  candidates_same w₀ o n = rw flags_same

  held_same : {w₀ : List ℕ} {o n : ℕ} {ms : List Message} {query : Query} → Terms query → Held w₀ w q o n ms query → Held w₀ w' q o n ms query
  held_same {w₀} {o} {n} {ms} {query} t h =
      let m = t.terms.at_most in
      let hs = thresholds_same (length query.terms) (omega arith) in
      record {
        says = says_by w w' (λ i l k. word_same i l (omega arith)) h.says;
        settled = rw (hs, candidates_same w₀ o n, keys_same) h.settled;
        ranked = keys_same ∙ h.ranked;
        flagged = λ j. rw (flags_same, hs) (h.flagged j);
        no_threshold = λ i l k. word_same (thresholds_in q + i) (omega arith) (omega arith) ∙ h.no_threshold i l k;
        listed_most = rw size_same h.listed_most;
        no_serial = rw (size_same, serials_same) h.no_serial;
        no_key = rw (size_same, keys_part_same) h.no_key;
      }

  pub held_at_same : (w₀ : List ℕ) (o n : ℕ) (ms : Query → List Message) (x : Option Query) → ((query : Query) → x ≡ some query → Terms query)
      → HeldAt w₀ w q o n ms x → HeldAt w₀ w' q o n ms x
  held_at_same w₀ o n ms none t h = λ i l. record_is i l ∙ h i l
  held_at_same w₀ o n ms (some query) t h = held_same (t query refl) h

  -- the slots as they were
  pub held_at : (o n : ℕ) (ms : Query → List Message) (x : Option Query) → ((query : Query) → x ≡ some query → Terms query)
      → HoldsAt w q o n ms x → HeldAt w w' q o n ms x
  held_at = held_at_same w

  module _ (o n : ℕ) (first : o < slots) (same : (j : ℕ) → j < slots → in_ring o n j ≡ true → slot w' j ≡ slot w j) where
    pub holds_at_same : (ms : Query → List Message) (x : Option Query) → ((query : Query) → x ≡ some query → Terms query) → HoldsAt w q o n ms x
        → HoldsAt w' q o n ms x
    holds_at_same ms none t h = λ i l. record_is i l ∙ h i l
    holds_at_same ms (some query) t h = seen_same w w' o n first same (held_same (t query refl) h)

-- ---- which are in use

pub in_use_is : (w₀ w : List ℕ) (q o n : ℕ) (ms : Query → List Message) (x : Option Query) → ((query : Query) → x ≡ some query → Terms query)
    → HeldAt w₀ w q o n ms x → not (eqb (get_or w (record_at q) 0) 0) ≡ is_in_use x
in_use_is w₀ w q o n ms none t h = ap not (eq-eqb _ 0 (rw add-zero at (h 0 (omega arith))))
in_use_is w₀ w q o n ms (some query) t h = ap not (ne_eqb (get_or w (record_at q) 0) 0 (λ z. omega (arith, h.says.k, (t query refl).k_least)))
