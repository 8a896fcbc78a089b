-- `impact_in` meets its contract. Assumes nothing.
use mathlib.Core.Path.{ap, ◌∙◌}
use Rattle.impact.specs.Cell.{cell_impact}
use Rattle.impact.proofs.CellLaws.{with_impact}
use Rattle.window.proofs.impact_in.Goals as goal

pub returns : goal.returns
returns c = ap cell_impact c.cell_in.ensures ∙ with_impact _ _
