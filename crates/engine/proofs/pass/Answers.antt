-- `pass` meets its contract: the first q records are updated. Assumes nothing.
use Prim.Native.Nat.{ℕ, ◌+◌}
use native.Mathlib.Omega.{arith}
use mathlib.Core.Path.{◌≡◌, ap, ◌∙◌}
use Rattle.paper.specs.Frame.{numbers}
use Rattle.memory.specs.Words.{words}
use Rattle.engine.proofs.PassedLaws.{passed_none, turn_unused, turn_unreached, turn_reached}
use Rattle.engine.proofs.pass.Goals as goal
use Rattle.engine.proofs.pass.Goals.{then-in_use+then-update, else-in_use, else-in_use-via-then-in_use+else-update, else-in_use-via-else-in_use}

pub loop-q-init : goal.loop-q-init
loop-q-init c = passed_none _

pub loop-q-preserved : goal.loop-q-preserved
loop-q-preserved c =
    let l = c.loop-q in
    let used = c.in_use.ensures in
    elim c.if-in_use.branch [
      | then-in_use+then-update u ↦
          turn_reached l.q _ _ (omega arith) (omega arith) l.invariant used u.if-in_use.true u.update.ensures u.if-update.true (ap words u.state-is)
          (u.marks-is ∙ ap (λ (x : ℕ). l.marks + x) u.pow2-marks.ensures)
      | else-in_use u ↦ elim u.else-in_use.branch [
        | else-in_use-via-then-in_use+else-update v ↦
            turn_unreached l.q _ _ (omega arith) (omega arith) l.invariant used v.if-in_use.true v.update.ensures v.if-update.false
            (ap words (u.state-is ∙ v.state-is)) u.marks-is
        | else-in_use-via-else-in_use v ↦
            turn_unused l.q _ _ (omega arith) (omega arith) l.invariant used v.if-in_use.false (ap words (u.state-is ∙ v.state-is)) u.marks-is
      ]
    ]

pub returns : goal.returns
returns c = let e : c.loop-q.q ≡ numbers = omega arith in rw e at c.loop-q.invariant
