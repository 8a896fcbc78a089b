-- `memory::store_big`'s loops. Assumes nothing.
use Rattle.memory.specs.Words.{big_words}
use Rattle.memory.proofs.ArrayLaws.{Storing}
use Rattle.memory.proofs.store_big.Given as goal

abbrev pub invariant-loop-n : goal.invariant-loop-n
invariant-loop-n g l = Storing big_words g.row.N l.i l.n l.a l.initial.s l.s
