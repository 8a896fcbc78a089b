-- The record of a query once what is kept of it is stored: the window and the query are as they were, and what is read of it. Assumes nothing.
use Prim.Native.Nat.{ℕ, ◌+◌, ◌≤◌, ◌<◌}
use mathlib.Core.Path.{◌≡◌, sym, ap, ◌∙◌}
use mathlib.Core.Logic.{inl}
use mathlib.Core.List.{List}
use lib.ListN.{get_or, take, drop}
use lib.Seq.{take-take, get_or-take, get_or-drop}
use lib.Dec.{ltb}
use Rattle.paper.specs.Sort.{select}
use Rattle.paper.specs.Window.{Message}
use Rattle.paper.specs.Layout.{slots, record_at, thresholds_in}
use Rattle.memory.specs.Keeps.{Keeps}
use Rattle.rank.specs.declared.Ranked.{Ranked}
use Rattle.rank.specs.Listing.{keyed_of}
use Rattle.window.specs.Slot.{Slot, ring}
use Rattle.window.proofs.SlotLaws.{live_slots, window_kept}
use Rattle.query.specs.Record.{thresholds, flags, keys}
use Rattle.query.specs.Post.{StoredKept, Over}

-- the slots lie below the records
pub over_kept : {a e : ℕ} {w w' : List ℕ} → Keeps a e w w' → record_at 0 ≤ a → (o n : ℕ) {ms : List Message} → o < slots → Over w o n ms → Over w' o n ms
over_kept {w = w} {w'} keeps h o n ho over = record {
  shows =
      live_slots w' (ring o n)
      ∙ ap (select (λ (x : Slot). ltb 0 x.size)) (window_kept keeps (inl h) o n ho)
      ∙ sym (live_slots w (ring o n))
      ∙ over.shows;
  valid = over.valid;
}

module _ {q : ℕ} {hs : List ℕ} {l : Ranked} {fs w w' : List ℕ} (kept : StoredKept q hs l fs w w') where
  pub thresholds_stored : (n : ℕ) → n ≤ 8 → thresholds w' q n ≡ take n hs
  unfolding thresholds
  thresholds_stored n h = sym (take-take n 8 (drop (thresholds_in q) w') h) ∙ ap (take n) kept.thresholds

  pub threshold_stored : (i : ℕ) → i < 8 → get_or w' (thresholds_in q + i) 0 ≡ get_or hs i 0
  threshold_stored i h =
      sym (get_or-take 8 (drop (thresholds_in q) w') i 0 h ∙ get_or-drop (thresholds_in q) w' i 0) ∙ ap (λ (xs : List ℕ). get_or xs i 0) kept.thresholds

  pub flags_stored : flags w' q ≡ fs
  unfolding flags
  flags_stored = kept.flags

  pub keys_stored : keys w' q ≡ keyed_of l
  unfolding keys
  keys_stored = rw (kept.count, kept.serials, kept.keys)
