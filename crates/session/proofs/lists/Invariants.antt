-- `lists`'s loops. Assumes nothing.
use Prim.Native.Nat.{◌+◌, ◌*◌, ◌≤◌}
use mathlib.Core.Path.{◌≡◌}
use Rattle.session.specs.Text.{marks_from, Lists, Printed}
use Rattle.session.proofs.lists.Given as goal

abbrev pub invariant-loop-q : goal.invariant-loop-q
invariant-loop-q l =
    (l.left ≡ marks_from l.marks l.q) × Printed (Lists l.state l.marks l.q) l.at l.initial.out l.end l.out × (l.end ≤ l.at + 716 * l.q)
