-- `entries`'s loops. Assumes nothing.
use Prim.Native.Nat.{◌+◌, ◌*◌, ◌≤◌}
use Rattle.session.specs.Text.{entries, Put}
use Rattle.session.proofs.text.entries.Given as goal

abbrev pub invariant-loop-i : goal.invariant-loop-i
invariant-loop-i l = Put (entries l.serials l.scores l.i) l.at l.initial.out l.end l.out × (l.end ≤ l.at + 42 * l.i)
