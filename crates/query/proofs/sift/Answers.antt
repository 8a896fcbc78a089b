-- `sift` meets its contract. Assumes nothing.
use native.Mathlib.Omega.{arith}
use borrow.Author.Rules.{rules}
use Rattle.candidates.proofs.FlagLaws.{zero_at}
use Rattle.query.proofs.SettleLaws.{having_picked}
use Rattle.query.proofs.sift.Goals as goal

pub look-requires-clause-rows_len : goal.look-requires-clause-rows_len
look-requires-clause-rows_len c = (search rules, zero_at 2313)

pub returns : goal.returns
returns c =
    let a = c.args in
    let looked = c.look.ensures in
    record {
      keeps = c.finish.ensures.keeps;
      right = λ hs ms query long lifted ready.
          c.finish.ensures.right a.messages.first a.messages.count a.flags hs ms query (omega arith)
          (having_picked c.flagged_slots-m.ensures.right) looked.right long lifted ready;
    }
