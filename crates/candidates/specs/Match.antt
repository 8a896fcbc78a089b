-- How a stored message matches a query: paper's score and thresholds, read off cells. Assumes nothing.
use Rattle.std.specs.Prelude.{ℕ, ◌+◌, ◌*◌, Bool, false, ◌||◌, List, [], ◌∷◌}
use Rattle.paper.specs.Frame.{Pair}
use Rattle.paper.specs.Impact.{score_by}
use Rattle.paper.specs.Rank.{key_factor}
use Rattle.paper.specs.Threshold.{exceeds_by}
use Rattle.impact.specs.Cell.{lookup}
use Rattle.rank.specs.Listing.{Keyed, keyed_with}
use Rattle.window.specs.Slot.{Slot, grade_in}

abbrev pub score_cells : List Pair → List ℕ → ℕ
score_cells qs cs = score_by (λ t. lookup t cs) qs

abbrev pub exceeds_cells : List Pair → List ℕ → List ℕ → Bool
exceeds_cells qs hs cs = exceeds_by (λ t. lookup t cs) qs hs

-- whether one of the slots exceeds a threshold
unfoldable pub reached_slots : List Pair → List ℕ → List Slot → Bool
reached_slots qs hs [] = false
reached_slots qs hs (x ∷ xs) = exceeds_cells qs hs x.cells || reached_slots qs hs xs

-- a slot's serial, and its score and urgency as a key
abbrev pub scored : List Pair → Slot → Keyed
scored qs x = keyed_with x.serial (score_cells qs x.cells * key_factor + grade_in x)
