-- `look_at` meets its contract. Assumes nothing.
use native.Mathlib.Omega.{arith}
use mathlib.Core.Path.{sym}
use borrow.Author.Rules.{rules}
use Rattle.window.proofs.RowLaws.{looked_none, looked_more}
use Rattle.window.proofs.look_at.Goals as goal

pub loop-i-init : goal.loop-i-init
loop-i-init c = search (rules, looked_none)

pub loop-i-preserved : goal.loop-i-preserved
loop-i-preserved c =
    looked_more _ _ _ _ _ c.loop-i.i _ (omega arith) (c.requires.in_row _) (omega arith) (omega arith) (sym c.cell_at-cell.ensures) c.loop-i.invariant
