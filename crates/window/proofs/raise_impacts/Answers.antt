-- `raise_impacts` meets its contract. Assumes nothing.
use mathlib.Core.Path.{sym}
use borrow.Author.Rules.{rules}
use Rattle.window.proofs.TableLaws.{raising_none, cells_next, cells_end}
use Rattle.window.proofs.raise_impacts.Goals as goal

pub loop-i-init : goal.loop-i-init
loop-i-init c = search (rules, raising_none)

pub loop-i-preserved : goal.loop-i-preserved
loop-i-preserved c = let read = sym c.cell_at-cell.ensures in search (rules, cells_next)

pub returns : goal.returns
returns c = search (rules, cells_end)
