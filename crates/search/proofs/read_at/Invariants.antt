-- `read_at`'s loop. Assumes nothing.
use Prim.Native.Nat.{◌*◌, ◌≤◌}
use mathlib.Core.Path.{◌≡◌}
use Rattle.paper.specs.Layout.{slots}
use Rattle.search.specs.Cut.{read_at}
use Rattle.search.specs.Post.{column}
use Rattle.search.proofs.read_at.Given as goal

abbrev pub invariant-loop-p : goal.invariant-loop-p
invariant-loop-p l = (l.count ≤ l.p * slots) × (l.count ≡ read_at l.p l.query.weights (column l.columns l.m) l.at)
