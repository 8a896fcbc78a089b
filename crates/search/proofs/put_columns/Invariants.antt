-- `put_columns`'s loop. Assumes nothing.
use Rattle.search.specs.Post.{Columns}
use Rattle.search.proofs.put_columns.Given as goal

abbrev pub invariant-loop-p : goal.invariant-loop-p
invariant-loop-p l = Columns l.rows l.m l.p l.columns
