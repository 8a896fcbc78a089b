-- A query's list, read off its record and changed in place. Assumes nothing.
use Prim.Native.Nat.{ℕ, ◌+◌, ◌-◌, ◌/◌, ◌≤◌, ◌<◌, min}
use native.Mathlib.Omega.{arith}
use mathlib.Core.Path.{◌≡◌, refl, sym, ap, ap₂, ◌∙◌}
use mathlib.Core.List.{List, [], ◌∷◌, ◌++◌, map}
use lib.ListN.{length, get_or, take, drop, length-take, length-drop, get_or-map}
use lib.Seq.{get_or-take, get_or-drop}
use borrow.Author.Tests.{eq-eqb, ne_eqb, le-leb, le-ltb, lt-ltb}
use Rattle.paper.specs.Frame.{numbers, most_listed}
use Rattle.paper.specs.Rank.{key_factor}
use Rattle.paper.specs.Layout.{slots, state_words, listed_in, serials_in, keys_in, record_at}
use Rattle.rank.specs.declared.Ranked.{Ranked}
use Rattle.rank.specs.Listing.{Keyed, keyed_with, keyed_of, line_with, shown, last_of, Tidy, Removed, without, withouts}
use Rattle.rank.proofs.LineLaws.{length_listed_lesser, listed_at_lem, last_listed}
use Rattle.window.specs.Slot.{slot, next, ring}
use Rattle.window.proofs.RingLaws.{ring_step, ring_none}
use Rattle.query.specs.Move.{Move}
use Rattle.query.specs.Record.{keys, listed_at}
use Rattle.query.specs.Post.{Least, WithoutGone}

-- ---- the list in the record

-- it has no more entries than places
pub keys_most : (w : List ℕ) (q : ℕ) → length (keys w q) ≤ most_listed
unfolding keys
keys_most w q =
    omega (
      arith,
      length_listed_lesser (get_or w (listed_in q) 0) (take most_listed (drop (serials_in q) w)) (take most_listed (drop (keys_in q) w)),
      length-take most_listed (drop (serials_in q) w),
    )

module _ (w : List ℕ) (q : ℕ) (long : length w ≡ state_words) (number : q < numbers) where
  sixteen : (a : ℕ) → a + most_listed ≤ state_words → length (take most_listed (drop a w)) ≡ most_listed
  sixteen a h = simp (length-take, length-drop) (omega arith)

  pub keys_length : length (keys w q) ≡ min (get_or w (listed_in q) 0) most_listed
  unfolding keys
  keys_length =
      length_listed_lesser (get_or w (listed_in q) 0) (take most_listed (drop (serials_in q) w)) (take most_listed (drop (keys_in q) w))
      ∙ omega (arith, sixteen (serials_in q) (omega arith), sixteen (keys_in q) (omega arith))

  word_at : (a i : ℕ) → i < most_listed → get_or (take most_listed (drop a w)) i 0 ≡ get_or w (a + i) 0
  word_at a i h = get_or-take most_listed (drop a w) i 0 h ∙ get_or-drop a w i 0

  -- one of its entries
  pub entry_is : {i s c : ℕ} → i < length (keys w q) → s ≡ get_or w (serials_in q + i) 0 → c ≡ get_or w (keys_in q + i) 0
      → line_with s (c / key_factor) ≡ listed_at w q i
  unfolding keys
  entry_is {i} h es ec =
      let within : i < most_listed = omega (arith, keys_most w q) in
      rw (es, ec)
      (sym (get_or-map shown (keys w q) i (keyed_with 0 0)
      ∙ ap shown (listed_at_lem (get_or w (listed_in q) 0) i (take most_listed (drop (serials_in q) w)) (take most_listed (drop (keys_in q) w)) h
      ∙ ap₂ keyed_with (word_at (serials_in q) i within) (word_at (keys_in q) i within))))

  module _ {n : ℕ} (is : n ≡ length (keys w q)) where
    last_is : get_or w (listed_in q) 0 ≤ most_listed → 0 < n → last_of (keys w q) ≡ get_or w (keys_in q + (n - 1)) 0
    unfolding keys
    last_is most some =
        let c : get_or w (listed_in q) 0 ≡ n = omega (arith, keys_length) in
        rw c
        (sym (last_listed n (take most_listed (drop (serials_in q) w)) (take most_listed (drop (keys_in q) w)) some
        (omega (arith, sixteen (serials_in q) (omega arith))) (omega (arith, sixteen (keys_in q) (omega arith))))
        ∙ word_at (keys_in q) (n - 1) (omega arith))

    -- one that isn't full, and one that is
    pub least_short : (n ≡ get_or w (record_at q) 0 → 0 < n → ⊥) → Least w q key_factor
    least_short short = record {
      is = λ query terms says most.
          let e = says.k in
          let p = terms.k_least in
          rw (ne_eqb (length (keys w q)) query.k (λ z. short (omega arith) (omega arith)));
    }

    pub least_full : n ≡ get_or w (record_at q) 0 → 0 < n → {r : ℕ} → r ≡ get_or w (keys_in q + (n - 1)) 0 → Least w q r
    least_full full some read = record {
      is = λ query terms says most.
          rw (eq-eqb (length (keys w q)) query.k (let e = says.k in omega arith)) (read ∙ sym (last_is most some));
    }

-- ---- what left goes out

-- the serials of n slots from slot o on
abbrev serials_of : List ℕ → ℕ → ℕ → List ℕ
serials_of w o n = map (λ j. (slot w j).serial) (ring o n)

withouts_append : (xs ys : List ℕ) (l : List Keyed) → withouts (xs ++ ys) l ≡ withouts ys (withouts xs l)
unfolding withouts
withouts_append [] ys l = refl
withouts_append (x ∷ xs) ys l = withouts_append xs ys (without x l)

-- what is left to be taken out of the list that stands makes it the first one without all of them
pub record Leaving (w : List ℕ) (o d : ℕ) (l : Ranked) (j n : ℕ) (r : Ranked) : Type 0 where
  pub within : r.count ≤ l.count
  pub tidy : Tidy l → Tidy r
  left : withouts (serials_of w j n) (keyed_of r) ≡ withouts (serials_of w o d) (keyed_of l)

pub leaving_all : {w : List ℕ} {o d : ℕ} {l : Ranked} → Leaving w o d l o d l
leaving_all = record { within = omega arith; tidy = λ t. t; left = refl }

pub leaving_next : {w : List ℕ} {o d : ℕ} {l : Ranked} {j n : ℕ} {r : Ranked} → Leaving w o d l j n r → {serial : ℕ} {r' : Ranked} → 0 < n
    → serial ≡ (slot w j).serial → Removed serial r r' → Leaving w o d l (next j) (n - 1) r'
unfolding withouts
leaving_next {w} {j = j} {n} {r} p some e out = record {
  within = let a = p.within in let b = out.within in omega arith;
  tidy = λ t. out.tidy;
  left =
      ap (withouts (serials_of w (next j) (n - 1))) (out.list ∙ ap (λ (s : ℕ). without s (keyed_of r)) e)
      ∙ sym (ap (λ (js : List ℕ). withouts (map (λ j. (slot w j).serial) js) (keyed_of r)) (ring_step j n some))
      ∙ p.left;
}

-- all that departed are out: there is a cancelled message, or none
module _ {w : List ℕ} (m : Move) {l : Ranked} {j n : ℕ} {r : Ranked} (p : Leaving w m.gone m.departed l j n r) (none : n ≤ 0) where
  departed_out : keyed_of r ≡ withouts (serials_of w m.gone m.departed) (keyed_of l)
  unfolding withouts
  departed_out = sym (ap (λ (js : List ℕ). withouts (map (λ j. (slot w j).serial) js) (keyed_of r)) (ring_none j n none)) ∙ p.left

  pub cancelled_leaves : {went least : ℕ} → least / key_factor ≤ went → {r' : Ranked} → m.cancelled < slots → Removed m.serial r r'
      → WithoutGone w m went least l r'
  unfolding withouts
  cancelled_leaves {went} {least} high h out = record {
    within = let a = p.within in let b = out.within in omega arith;
    tidy = λ t. out.tidy;
    list_is =
        rw (le-leb (least / key_factor) went high, lt-ltb m.cancelled slots h)
        (out.list
        ∙ ap (without m.serial) departed_out
        ∙ sym (withouts_append (serials_of w m.gone m.departed) (m.serial ∷ []) (keyed_of l)));
  }

  pub none_cancelled : {went least : ℕ} → least / key_factor ≤ went → slots ≤ m.cancelled → WithoutGone w m went least l r
  unfolding withouts
  none_cancelled {went} {least} high h = record {
    within = p.within;
    tidy = p.tidy;
    list_is =
        rw (le-leb (least / key_factor) went high, le-ltb m.cancelled slots h)
        (departed_out ∙ sym (withouts_append (serials_of w m.gone m.departed) [] (keyed_of l)));
  }
