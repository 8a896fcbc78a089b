-- `finish` meets its contract. Assumes nothing.
use mathlib.Core.Path.{◌≡◌}
use lib.ListN.{length}
use borrow.Author.Rules.{rules}
use Rattle.query.proofs.SettleLaws.{Sixteen, sifted_exact, finished}
use Rattle.query.proofs.finish.Goals as goal

pub returns : goal.returns
returns c =
    let sixteen : Sixteen c.args.list = search rules in
    let eight : length c.args.raised ≡ 8 = search rules in
    let range = c.requires.in_range in
    record {
      keeps = c.store.ensures.keeps;
      right = λ first count fs hs ms query ho picked looked long lifted ready.
          finished range sixteen long eight lifted ready ho
          (sifted_exact range sixteen long eight lifted ready ho picked looked c.sifted_rows-kept.ensures) c.store.ensures;
    }
