-- `cell_at` meets its contract. Assumes nothing.
use native.Mathlib.Omega.{arith}
use mathlib.Core.Path.{◌∙◌}
use borrow.Author.Rules.{rules}
use Rattle.memory.specs.Words.{words}
use Rattle.window.proofs.SlotLaws.{slot_few, slot_cell}
use Rattle.window.proofs.cell_at.Goals as goal

pub overflow_add-j-2 : goal.overflow_add-j-2
overflow_add-j-2 c = let few = slot_few (words c.args.state.now) c.args.j in search rules

pub get-requires : goal.get-requires
get-requires c = let few = slot_few (words c.args.state.now) c.args.j in omega arith

pub returns : goal.returns
returns c = c.get.ensures ∙ slot_cell _ _ _ c.requires.1
