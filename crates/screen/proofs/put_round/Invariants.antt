-- `put_round`'s loops. Assumes nothing.
use Rattle.memory.specs.Words.{words}
use Rattle.screen.proofs.RoundLaws.{WritingRound}
use Rattle.screen.proofs.put_round.Given as goal

abbrev pub invariant-loop-j : goal.invariant-loop-j
invariant-loop-j l = WritingRound (words l.state) l.i l.queries l.initial.out l.out l.j
