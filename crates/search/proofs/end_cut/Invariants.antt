-- `end_cut`'s loops. Assumes nothing.
use Prim.Native.Nat.{ℕ, ◌-◌, ◌≤◌, ◌<◌}
use Rattle.search.specs.Post.{sum_by, height_limit}
use Rattle.search.proofs.end_cut.Given as goal

-- the sum is less at the low cut, and no less at any from the high one on
abbrev pub invariant-loop-high : goal.invariant-loop-high
invariant-loop-high l = (l.low < l.high)
    × (l.high ≤ height_limit)
    × (0 < l.score → sum_by l.columns l.m l.query l.low < l.score)
    × ((z : ℕ) → l.high ≤ z → z < height_limit → l.score ≤ sum_by l.columns l.m l.query z)

abbrev pub decreases-loop-high : goal.decreases-loop-high
decreases-loop-high l = l.high - l.low
