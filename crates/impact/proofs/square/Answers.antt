-- `square` meets its contract. Assumes nothing.
use borrow.Author.Rules.{rules}
use Rattle.impact.specs.Table.{squares_from}
use Rattle.impact.proofs.square.Goals as goal

-- the one test of the table: its rule is computed for all places, and gives the code's entries
pub returns : goal.returns
unfolding squares_from
returns c = search rules
