-- `refill` meets its contract. Assumes nothing.
use native.Mathlib.Omega.{arith}
use lib.ListN.{replicate}
use Rattle.candidates.proofs.FlagLaws.{zero_at}
use Rattle.candidates.proofs.RowLaws.{having_shares}
use Rattle.query.proofs.SettleLaws.{all_flags, all_flagged, having_all, shown_all, zero_sum}
use Rattle.query.proofs.refill.Goals as goal

pub returns : goal.returns
returns c =
    let a = c.args in
    let r = a.query in
    let e = c.settled-done.ensures.certain (zero_sum r.n r.weights (replicate 8 0) (λ i. zero_at 8 i)) in
    record {
      keeps = c.settled-done.ensures.keeps;
      right = λ ms query over terms says is.
          c.settled-done.ensures.right e a.messages.first a.messages.count all_flags ms query (omega arith)
          (having_all a.messages.first a.messages.count (omega arith) (having_shares (c.having-m.ensures.right is.rising is.known))) over terms says is
          (λ i h. zero_at 8 i) (shown_all (omega arith) over) (λ j h i x. all_flagged j h);
    }
