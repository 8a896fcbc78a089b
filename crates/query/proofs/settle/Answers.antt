-- `settle` meets its contract. Assumes nothing.
use Prim.Native.Nat.{ℕ}
use native.Mathlib.Omega.{arith}
use mathlib.Core.Path.{subst, ◌∙◌}
use mathlib.Core.List.{List}
use Rattle.memory.specs.Words.{words}
use Rattle.query.specs.Post.{Refilled}
use Rattle.query.proofs.SettleLaws.{having_picked, shown_exact}
use Rattle.query.proofs.settle.Goals as goal

pub returns-then-not-settled : goal.returns-then-not-settled
returns-then-not-settled c =
    let a = c.args in
    let same = c.settled.ensures.refused c.if-not-settled.true in
    let refilled = subst (λ (v : List ℕ). Refilled v a.q a.messages.first a.messages.count a.query (words c.refill.new.state)) same c.refill.ensures in
    record { keeps = refilled.keeps; right = λ ms query over terms says is unused exact. refilled.right ms query over terms says is }

pub returns-else-not-settled : goal.returns-else-not-settled
returns-else-not-settled c =
    let a = c.args in
    record {
      keeps = c.settled.ensures.keeps;
      right = λ ms query over terms says is unused exact.
          c.settled.ensures.right c.if-not-settled.false a.messages.first a.messages.count a.flags ms query (omega arith)
          (having_picked c.flagged_slots-m.ensures.right) over terms says is unused (shown_exact (omega arith) over exact) (λ j h i e. exact j h i ∙ e);
    }
