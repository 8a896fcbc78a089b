-- `packed`'s loops. Assumes nothing.
use Rattle.query.proofs.RegisterLaws.{Packing}
use Rattle.query.proofs.packed.Given as goal

abbrev pub invariant-loop-i : goal.invariant-loop-i
invariant-loop-i l = Packing l.fn.query.n l.fn.query.terms l.fn.query.weights l.pairs l.i
