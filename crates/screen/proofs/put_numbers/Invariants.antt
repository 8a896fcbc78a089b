-- `put_numbers`'s loops. Assumes nothing.
use Rattle.screen.proofs.WaitLaws.{Numbering}
use Rattle.screen.proofs.put_numbers.Given as goal

abbrev pub invariant-loop-q : goal.invariant-loop-q
invariant-loop-q l = Numbering l.q l.queries
