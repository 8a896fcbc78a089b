-- `put_cells`'s loops. Assumes nothing.
use Rattle.paper.specs.Write.{side_by_side}
use Rattle.memory.specs.Words.{words}
use Rattle.memory.proofs.ArrayLaws.{Storing}
use Rattle.impact.specs.Cell.{cells_of}
use Rattle.window.proofs.put_cells.Given as goal

abbrev pub invariant-loop-i : goal.invariant-loop-i
invariant-loop-i l = Storing words l.m l.at l.i (cells_of (side_by_side l.m l.terms l.counts)) l.initial.state l.state
