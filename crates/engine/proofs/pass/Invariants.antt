-- `pass`'s loops: the first q records are updated. Assumes nothing.
use Rattle.memory.specs.Words.{words}
use Rattle.query.specs.Move.{in_slots}
use Rattle.engine.specs.Inner.{Passed}
use Rattle.engine.proofs.pass.Given as goal

abbrev pub invariant-loop-q : goal.invariant-loop-q
invariant-loop-q l = Passed l.q (words l.initial.state) (in_slots l.fn.moved) l.coming l.going l.marks (words l.state)
