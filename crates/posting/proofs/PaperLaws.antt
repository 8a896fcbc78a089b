-- The postings of a window that holds messages, cancelled or not, are paper's of those in force. Assumes nothing.
use Prim.Native.Nat.{ℕ, ◌*◌, ◌≤◌}
use mathlib.Core.Path.{◌≡◌, refl, sym, ap, ◌∙◌}
use mathlib.Core.Bool.{Bool, true, false, cond}
use mathlib.Core.List.{List, [], ◌∷◌, ◌++◌, map}
use lib.ListN.{length, drop}
use lib.Dec.{ltb}
use Rattle.paper.specs.Frame.{Pair}
use Rattle.paper.specs.Window.{Message}
use Rattle.paper.specs.Impact.{impact_in}
use Rattle.paper.specs.Rank.{Line, entry, entries, line, lines, postings}
use Rattle.paper.specs.Sort.{select}
use Rattle.paper.specs.Log.{posting_length}
use Rattle.paper.specs.Sound.{Messages}
use Rattle.paper.proofs.Tests.{by_bool}
use Rattle.paper.proofs.SortLaws.{inserts_map, length_sort}
use Rattle.paper.proofs.WindowLaws.{active}
use Rattle.impact.specs.Cell.{lookup}
use Rattle.impact.proofs.CellLaws.{lookup_cells}
use Rattle.window.specs.Slot.{Slot, stored, silenced, held}
use Rattle.posting.specs.Lines.{ahead_line, line_bytes}
use Rattle.posting.specs.Posting.{having, posting, Counted, Filled}

module _ (t : ℕ) where
  pub having_stored : (ms : List Message) → Messages ms → having t (map stored ms) ≡ lines (entries (λ ps. impact_in ps t) ms)
  unfolding select stored
  having_stored [] v = refl
  having_stored (m ∷ ms) v = rw (lookup_cells m.pairs v.1 t) (go (ltb 0 (impact_in m.pairs t)) (having_stored ms v.2))
    where
      measure : List Pair → ℕ
      measure ps = impact_in ps t

      go : (b : Bool) → having t (map stored ms) ≡ lines (entries measure ms)
          → cond b (line (entry measure m) ∷ having t (map stored ms)) (having t (map stored ms))
          ≡ lines (cond b (entry measure m ∷ entries measure ms) (entries measure ms))
      go true ih = ap (λ (r : List Line). line (entry measure m) ∷ r) ih
      go false ih = ih

  pub posting_stored : (ms : List Message) → Messages ms → posting t (map stored ms) ≡ lines (postings t ms)
  unfolding postings
  posting_stored ms v = rw (having_stored ms v) (inserts_map line ahead_line [] (entries (λ ps. impact_in ps t) ms))

  -- one that is cancelled has no impact
  having_held : (ms : List Message) → having t (map held ms) ≡ having t (map stored (select active ms))
  unfolding select silenced lookup
  having_held [] = refl
  having_held (m ∷ ms) =
      by_bool m.cancelled
      (λ c. rw (c, having_held ms))
      (λ c. rw (c, having_held ms))

  -- what each reader says of a window that holds messages
  module _ {xs : List Slot} (all : List Message) (v : Messages (select active all)) (e : xs ≡ map held all) where
    abbrev ms : List Message
    ms = select active all

    sorted : posting t xs ≡ lines (postings t ms)
    sorted = rw (e, having_held all) (posting_stored ms v)

    number : length (having t xs) ≡ length (lines (postings t ms))
    number = sym (length_sort ahead_line (having t xs)) ∙ ap length sorted

    pub counted_postings : {n r : ℕ} → Counted t n xs r → r ≡ length (lines (postings t ms))
    counted_postings c = c.right ∙ number

    pub filled_postings : {n : ℕ} {out out' : List ℕ} → Filled t n xs out out' → posting_length * length (lines (postings t ms)) ≤ length out
        → out' ≡ line_bytes (lines (postings t ms)) ++ drop (posting_length * length (lines (postings t ms))) out
    filled_postings c fits = c.right (rw number fits) ∙ rw (sorted, number) refl
