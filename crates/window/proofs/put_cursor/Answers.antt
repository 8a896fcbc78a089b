-- `put_cursor` meets its contract. Assumes nothing.
use native.Mathlib.Omega.{arith}
use borrow.Author.Rules.{rules}
use Rattle.window.proofs.HeaderLaws.{cursor_put}
use Rattle.window.proofs.put_cursor.Goals as goal

pub returns : goal.returns
returns c = cursor_put _ _ _ _ (omega arith) (search rules) (omega arith) (omega arith) c.put.ensures c.put-2.ensures c.put-3.ensures
