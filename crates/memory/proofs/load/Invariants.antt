-- `memory::load`'s loops. Assumes nothing.
use Rattle.memory.proofs.ArrayLaws.{Loading}
use Rattle.memory.proofs.load.Given as goal

abbrev pub invariant-loop-n : goal.invariant-loop-n
invariant-loop-n g l = Loading g.row.N l.i l.n l.s l.a
