-- `settled` meets its contract. Assumes nothing.
use Prim.Native.Nat.{◌+◌, ◌≤◌}
use native.Mathlib.Omega.{arith}
use mathlib.Core.Path.{◌≡◌, refl, sym, ◌∙◌}
use mathlib.Core.Bool.{true≢false, false≢true}
use lib.ListN.{length}
use borrow.Author.Rules.{rules}
use Rattle.paper.specs.Layout.{record_at, record_words, listed_in}
use Rattle.memory.specs.Words.{words}
use Rattle.memory.proofs.KeepsLaws.{keeps_refl}
use Rattle.candidates.proofs.FlagLaws.{zero_at}
use Rattle.query.proofs.LiftLaws.{secure_zero}
use Rattle.query.proofs.SettleLaws.{Sixteen, ready_shown}
use Rattle.query.proofs.settled.Goals as goal

pub look-requires-clause-rows_len : goal.look-requires-clause-rows_len
look-requires-clause-rows_len c = (search rules, zero_at 2313)

pub returns-then-not-is_safe : goal.returns-then-not-is_safe
returns-then-not-is_safe c =
    let a = c.args in
    record {
      keeps = keeps_refl (listed_in a.q) (record_at a.q + record_words) (words a.state.now);
      certain = λ z. absurd (false≢true (sym c.if-not-is_safe.true ∙ c.is_safe.ensures ∙ sym (secure_zero a.query a.thresholds c.ranked_rows-list.result z)));
      refused = λ e. refl;
      right = λ e. absurd (false≢true e);
    }

pub returns : goal.returns
returns c =
    let most : c.ranked_rows-list.result.count ≤ 16 = omega (arith, c.ranked_rows-list.ensures.within, c.requires.in_range.k_most) in
    let sixteen : Sixteen c.ranked_rows-list.result = search rules in
    let eight : length c.args.thresholds ≡ 8 = search rules in
    let a = c.args in
    let looked = c.look.ensures in
    record {
      keeps = c.finish.ensures.keeps;
      certain = λ z. refl;
      refused = λ e. absurd (true≢false e);
      right = λ e first count fs ms query ho kept over terms says is unused shown taken.
          c.finish.ensures.right first count fs a.thresholds ms query ho kept looked.right eight c.raised-next.ensures
          (ready_shown a.thresholds kept looked.right c.ranked_rows-list.ensures eight c.requires.in_range sixteen
          (sym c.is_safe.ensures ∙ c.if-not-is_safe.false) over terms says is unused shown taken);
    }
