-- `squared`'s loops. Assumes nothing.
use Prim.Native.Nat.{ℕ, ◌*◌, ◌-◌, ◌^◌, ◌≤◌}
use mathlib.Core.Path.{◌≡◌}
use Rattle.paper.specs.Frame.{count_width}
use Rattle.impact.specs.Cell.{squares_of}
use Rattle.impact.proofs.squared.Given as goal

abbrev most : ℕ
most = 2 ^ count_width - 1

abbrev pub invariant-loop-count : goal.invariant-loop-count
invariant-loop-count l = (l.sum ≡ squares_of l.count-index l.fn.counts) × (l.sum ≤ l.count-index * (most * most))
