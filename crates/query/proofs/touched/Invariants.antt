-- `touched`'s loops. Assumes nothing.
use Prim.Native.Nat.{◌*◌, ◌≤◌}
use mathlib.Core.Path.{◌≡◌}
use Rattle.memory.specs.Words.{words}
use Rattle.query.specs.Touch.{found_sum, found_above}
use Rattle.query.proofs.TouchLaws.{most}
use Rattle.query.proofs.touched.Given as goal

-- what the first i terms have
abbrev pub invariant-loop-i : goal.invariant-loop-i
invariant-loop-i l = (l.comes ≡ found_above (words l.state) l.q l.coming l.i)
    × (l.goes ≡ found_above (words l.state) l.q l.going l.i)
    × ((l.came ≡ found_sum (words l.state) l.q l.coming l.i) × (l.came ≤ l.i * most))
    × ((l.went ≡ found_sum (words l.state) l.q l.going l.i) × (l.went ≤ l.i * most))
