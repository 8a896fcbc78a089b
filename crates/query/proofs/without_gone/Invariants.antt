-- `without_gone`'s loop. Assumes nothing.
use Rattle.memory.specs.Words.{words}
use Rattle.query.proofs.PlaceLaws.{Leaving}
use Rattle.query.proofs.without_gone.Given as goal

-- those that the iterator has yet to give are left
abbrev pub invariant-loop-j : goal.invariant-loop-j
invariant-loop-j l = Leaving (words l.state) l.fn.moved.gone.first l.fn.moved.gone.count l.initial.rest l.j-iterator.at l.j-iterator.left l.rest
