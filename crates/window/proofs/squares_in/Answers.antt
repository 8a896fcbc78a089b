-- `squares_in` meets its contract. Assumes nothing.
use native.Mathlib.Omega.{arith}
use lib.ListN.{get_or-map}
use borrow.Author.Rules.{rules}
use Rattle.memory.specs.Words.{words}
use Rattle.paper.proofs.ImpactLaws.{square_most}
use Rattle.impact.specs.Cell.{cell_count, squares_of}
use Rattle.impact.proofs.CellLaws.{squares_more}
use Rattle.window.specs.Slot.{slot}
use Rattle.window.proofs.squares_in.Goals as goal

pub loop-i-init : goal.loop-i-init
unfolding squares_of
loop-i-init c = search rules

pub loop-i-preserved : goal.loop-i-preserved
loop-i-preserved c =
    let read = get_or-map cell_count (slot (words c.args.state.now) c.args.j).cells c.loop-i.i 0 in
    (grind (arith, squares_more), grind (arith, square_most))
