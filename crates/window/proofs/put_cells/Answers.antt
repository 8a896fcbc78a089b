-- `put_cells` meets its contract. Assumes nothing.
use native.Mathlib.Omega.{arith}
use mathlib.Core.Path.{◌≡◌, refl, sym, ◌∙◌}
use lib.ListN.{get_or}
use borrow.Author.Rules.{rules}
use Rattle.paper.specs.Write.{side_by_side}
use Rattle.paper.proofs.ImpactLaws.{impact_most}
use Rattle.memory.proofs.ArrayLaws.{storing_none, storing_word}
use Rattle.impact.specs.Cell.{cells_of}
use Rattle.window.proofs.SlotLaws.{cells_length, cell_at}
use Rattle.window.proofs.put_cells.Goals as goal

pub loop-i-init : goal.loop-i-init
loop-i-init c = storing_none (omega arith) (cells_length _ _ _ (omega arith) (omega arith))

pub cell-cell-requires : goal.cell-cell-requires
cell-cell-requires c =
    let h = c.requires.fit c.loop-i.i (omega arith) in
    let m = impact_most c.from-count.result c.squared-squares.result in
    (omega arith, omega arith, omega arith)

pub loop-i-preserved : goal.loop-i-preserved
loop-i-preserved c =
    let a = c.args in
    let i = c.loop-i.i in
    -- what is put is the cell of the pair at i
    let e : c.cell-cell.result ≡ get_or (cells_of (side_by_side a.m a.terms a.counts)) i 0 =
    c.cell-cell.ensures
    ∙ rw (c.from.ensures, c.of-impact.ensures, c.squared-squares.ensures, c.from-count.ensures) refl
    ∙ sym (cell_at a.m a.terms a.counts (omega arith) (omega arith) i (omega arith)) in
    storing_word (omega arith) (omega arith) (rw (← e) (search rules)) (rw (← e) c.put.ensures) c.loop-i.invariant
