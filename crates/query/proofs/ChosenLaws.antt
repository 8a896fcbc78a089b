-- Slots chosen from the window and the messages that they hold. Assumes nothing.
use Prim.Native.Nat.{ℕ, ◌^◌, ◌<◌}
use mathlib.Core.Path.{◌≡◌, refl, sym, ap, ◌∙◌}
use mathlib.Core.Bool.{Bool, false, ◌&&◌, ◌||◌}
use mathlib.Core.Logic.{inl, inr, ⊎_elim}
use mathlib.Core.List.{List, [], ◌∷◌, ◌++◌, map, map-map}
use Rattle.paper.specs.Frame.{Pair, Pairs, count_width, most_pairs, serial_width}
use Rattle.paper.specs.Order.{In}
use Rattle.paper.specs.Sort.{select}
use Rattle.paper.specs.Rank.{serials}
use Rattle.paper.specs.Window.{Message}
use Rattle.paper.specs.Threshold.{exceeds, reached}
use Rattle.paper.specs.Threshold as Threshold
use Rattle.paper.specs.Sound.{Messages}
use Rattle.paper.specs.Layout.{slots}
use Rattle.paper.proofs.Tests.{by_bool, or_false}
use Rattle.paper.proofs.SortLaws.{select_map}
use Rattle.window.specs.Slot.{Slot, slot, stored, ring}
use Rattle.candidates.specs.Match.{exceeds_cells, reached_slots}
use Rattle.candidates.specs.Flags.{flag_of}
use Rattle.candidates.proofs.MatchLaws.{exceeds_stored, reached_stored, in_ring_lem, select_agree, taken_slots}
use Rattle.query.specs.Record.{flags, candidates}
use Rattle.query.specs.Post.{Over, Exact}

-- ---- messages within their ranges

pub messages_in : (m : Message) (ms : List Message) → Messages ms → In m ms → (m.serial < 2 ^ serial_width) × Pairs count_width most_pairs m.pairs
messages_in m [] v i = absurd i
messages_in m (x ∷ ms) v (inl e) = rw e (v.0, v.1)
messages_in m (x ∷ ms) v (inr i) = messages_in m ms v.2 i

pub messages_select : (test : Message → Bool) (ms : List Message) → Messages ms → Messages (select test ms)
unfolding select
messages_select test [] v = tt
messages_select test (m ∷ ms) v =
    let ih = messages_select test ms v.2 in
    by_bool (test m) (λ e. rw e (v.0, v.1, ih)) (λ e. rw e ih)

-- ---- slots that exceed a threshold

module _ (w js : List ℕ) (ms : List Message) (valid : Messages ms) (shows : map (slot w) js ≡ map stored ms) where
  pub slots_reached : (qs : List Pair) (hs : List ℕ) → reached_slots qs hs (map (slot w) js) ≡ reached qs hs ms
  slots_reached qs hs = ap (reached_slots qs hs) shows ∙ reached_stored qs hs ms valid

module _ (w : List ℕ) (o n : ℕ) (ms : List Message) (over : Over w o n ms) (qs : List Pair) (hs : List ℕ) where
  -- the slots chosen because they exceed a threshold hold the candidates
  pub chosen : (test : ℕ → Bool) → ((j : ℕ) → In j (ring o n) → test j ≡ exceeds_cells qs hs (slot w j).cells)
      → map (slot w) (select test (ring o n)) ≡ map stored (Threshold.candidates qs hs ms)
  chosen test agrees =
      taken_slots w (ring o n) qs hs test agrees
      ∙ ap (select exceeding) over.shows
      ∙ select_map stored exceeding ms
      ∙ ap (map stored)
      (select_agree (λ m. exceeding (stored m)) (λ m. exceeds qs hs m.pairs) ms (λ m i. exceeds_stored qs hs m (messages_in m ms over.valid i).1))
    where
      exceeding : Slot → Bool
      exceeding x = exceeds_cells qs hs x.cells

-- the serials of slots that hold messages
serials_of_lem : (w js : List ℕ) (ms : List Message) → map (slot w) js ≡ map stored ms → map (λ j. (slot w j).serial) js ≡ serials ms
unfolding stored
serials_of_lem w js ms e =
    sym (map-map (λ (x : Slot). x.serial) (slot w) js)
    ∙ ap (map (λ (x : Slot). x.serial)) e
    ∙ map-map (λ (x : Slot). x.serial) stored ms

-- flags that are exact are those of the candidates
pub candidates_are : {w : List ℕ} {o n : ℕ} {ms : List Message} (q : ℕ) (qs : List Pair) (hs : List ℕ) → o < slots → Over w o n ms
    → Exact w o n (flags w q) qs hs → candidates w w q o n ≡ serials (Threshold.candidates qs hs ms)
unfolding candidates
candidates_are {w} {o} {n} {ms} q qs hs ho over exact =
    serials_of_lem w (select (flag_of (flags w q)) (ring o n)) (Threshold.candidates qs hs ms)
    (chosen w o n ms over qs hs (flag_of (flags w q))
    (λ j m. exact j ∙ ap (λ (b : Bool). b && exceeds_cells qs hs (slot w j).cells) (in_ring_lem o n j ho m).1))

-- ---- reached by one part or the other

pub reached_append : (qs : List Pair) (hs : List ℕ) (xs ys : List Message) → reached qs hs (xs ++ ys) ≡ (reached qs hs xs || reached qs hs ys)
unfolding reached
reached_append qs hs [] ys = refl
reached_append qs hs (x ∷ xs) ys = by_bool (exceeds qs hs x.pairs) (λ e. rw e) (λ e. rw e (reached_append qs hs xs ys))

-- none of the slots does where they aren't reached
pub unreached_slot : (qs : List Pair) (hs w js : List ℕ) → reached_slots qs hs (map (slot w) js) ≡ false
    → (j : ℕ) → In j js → exceeds_cells qs hs (slot w j).cells ≡ false
unfolding reached_slots
unreached_slot qs hs w [] e j m = absurd m
unreached_slot qs hs w (i ∷ js) e j m =
    let d = or_false (exceeds_cells qs hs (slot w i).cells) (reached_slots qs hs (map (slot w) js)) e in
    ⊎_elim (λ p. rw p d.0) (λ p. unreached_slot qs hs w js d.1 j p) m
