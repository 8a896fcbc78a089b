-- `memory::store`'s loops. Assumes nothing.
use Rattle.memory.specs.Words.{words}
use Rattle.memory.proofs.ArrayLaws.{Storing}
use Rattle.memory.proofs.store.Given as goal

abbrev pub invariant-loop-n : goal.invariant-loop-n
invariant-loop-n g l = Storing words g.row.N l.i l.n l.a l.initial.s l.s
