-- `with_entry`'s loops. Assumes nothing.
use Rattle.memory.specs.Words.{words}
use Rattle.screen.proofs.WaitLaws.{Choosing}
use Rattle.screen.proofs.with_entry.Given as goal

abbrev pub invariant-loop-j : goal.invariant-loop-j
invariant-loop-j l = Choosing (words l.state) l.i l.initial.queries l.queries l.n l.j
