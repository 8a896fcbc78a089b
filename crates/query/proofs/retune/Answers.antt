-- `retune` meets its contract. Assumes nothing.
use mathlib.Core.Path.{◌≡◌, sym, subst, ◌∙◌}
use native.Mathlib.Omega.{arith}
use lib.ListN.{length}
use Rattle.std.specs.Cmp.Lexicographic.{same_text}
use borrow.Author.Rules.{rules}
use Rattle.query.specs.Post.{Lifted}
use Rattle.query.proofs.SettleLaws.{Sixteen, finished}
use Rattle.query.proofs.retune.Goals as goal

pub returns-then-eq : goal.returns-then-eq
returns-then-eq c =
    let sixteen : Sixteen c.args.list = search rules in
    let eight : length c.args.thresholds ≡ 8 = search rules in
    let a = c.args in
    let e : c.raised-next.result ≡ a.thresholds = same_text c.raised-next.result a.thresholds (sym c.if-eq.true ∙ c.eq.ensures) in
    record {
      keeps = c.store.ensures.keeps;
      right = λ ms query ready exact.
          finished c.requires.in_range sixteen eight eight (subst (Lifted a.query a.thresholds a.list) e c.raised-next.ensures) ready (omega arith) exact
          c.store.ensures;
    }

pub returns-else-eq : goal.returns-else-eq
returns-else-eq c =
    let eight : length c.args.thresholds ≡ 8 = search rules in
    let f = c.sift.ensures in
    record { keeps = f.keeps; right = λ ms query ready exact. f.right c.args.thresholds ms query eight c.raised-next.ensures ready }
