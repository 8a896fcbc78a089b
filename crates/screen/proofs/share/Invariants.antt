-- `share`'s loops. Assumes nothing.
use Rattle.memory.specs.Words.{words}
use Rattle.screen.proofs.RoundLaws.{Sharing}
use Rattle.screen.proofs.share.Given as goal

abbrev pub invariant-loop-i : goal.invariant-loop-i
invariant-loop-i l = Sharing (words l.state) l.lines l.initial.out l.out l.queries l.count l.placed l.i
