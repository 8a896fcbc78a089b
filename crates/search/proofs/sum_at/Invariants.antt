-- `sum_at`'s loop. Assumes nothing.
use Prim.Native.Nat.{◌*◌, ◌≤◌}
use mathlib.Core.Path.{◌≡◌}
use Rattle.search.specs.Cut.{sum_at}
use Rattle.search.specs.Post.{column}
use Rattle.search.proofs.sum_at.Given as goal

abbrev pub invariant-loop-p : goal.invariant-loop-p
invariant-loop-p l = (l.sum ≤ l.p * 1048576) × (l.sum ≡ sum_at l.p l.query.weights (column l.columns l.m) l.at)
