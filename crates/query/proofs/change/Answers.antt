-- `change` meets its contract. Assumes nothing.
use Prim.Native.Nat.{ℕ}
use mathlib.Core.Path.{◌≡◌, refl, sym, ap₂, ◌∙◌}
use mathlib.Core.Bool.{Bool, true, false, not, ◌&&◌, false≢true}
use lib.Dec.{eqb}
use borrow.Author.Rules.{rules}
use borrow.Author.Tests.{eqb-true, eq-eqb}
use Rattle.query.proofs.SettleLaws.{Sixteen}
use Rattle.query.proofs.ChangeLaws.{changed_settled, changed_in_place}
use Rattle.query.proofs.change.Goals as goal

-- whether a full list has lost its last place
kept_full : {had has k : ℕ} → (eqb had k && not (eqb has k)) ≡ false → had ≡ k → has ≡ k
kept_full {had} {has} {k} f full = go (eqb has k) refl
  where
    go : (t : Bool) → eqb has k ≡ t → has ≡ k
    go true u = eqb-true has k u
    go false u = absurd (false≢true (sym f ∙ ap₂ (λ (x y : Bool). x && not y) (eq-eqb had k full) u))

pub returns-then-list-k : goal.returns-then-list-k
returns-then-list-k c = changed_settled c.load_query-query.ensures c.load_thresholds-thresholds.ensures c.settle.ensures

pub returns-else-list-k : goal.returns-else-list-k
returns-else-list-k c =
    let sixteen : Sixteen c.load_list-list.result = search rules in
    let sixteen_next : Sixteen c.with_newest-next.result = search rules in
    changed_in_place c.load_query-query.ensures c.load_thresholds-thresholds.ensures c.load_list-list.ensures sixteen sixteen_next
    c.without_gone-rest.ensures c.with_newest-next.ensures (kept_full c.if-list-k.false) c.retune.ensures
