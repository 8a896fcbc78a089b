-- `share` meets its contract. Assumes nothing.
use native.Mathlib.Omega.{arith}
use mathlib.Core.Path.{refl}
use mathlib.Core.Logic.{inl, inr}
use Rattle.screen.proofs.RoundLaws.{sharing_none, left_in, still, sharing_more, sharing_all}
use Rattle.screen.proofs.share.Goals as goal

pub loop-i-init : goal.loop-i-init
loop-i-init c = sharing_none refl refl refl c.put_numbers.ensures

pub put_round-requires-clause-by_index : goal.put_round-requires-clause-by_index
put_round-requires-clause-by_index c =
    let p = c.loop-i.invariant in
    still c.requires.1 (omega arith) (left_in p.known c.with_entry-count.auto.queries c.with_entry-count.ensures) c.min-n.ensures p

pub loop-i-preserved : goal.loop-i-preserved
loop-i-preserved c =
    let p = c.loop-i.invariant in
    sharing_more c.requires.1 (omega arith) (left_in p.known c.with_entry-count.auto.queries c.with_entry-count.ensures) c.min-n.ensures p
    c.put_round.ensures

pub returns-then-lines-placed : goal.returns-then-lines-placed
returns-then-lines-placed c =
    let p = c.loop-i.invariant in
    elim c.then-lines-placed.either [ inl h ↦ sharing_all (inr (inl h)) p | inr h ↦ sharing_all (inr (inr h.1)) p ]

pub returns-after-loop-i : goal.returns-after-loop-i
returns-after-loop-i c = sharing_all (inl (omega arith)) c.loop-i.invariant
