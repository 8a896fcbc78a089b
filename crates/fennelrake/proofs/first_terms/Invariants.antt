-- `first_terms`'s loops. Assumes nothing.
use Rattle.fennelrake.proofs.TermLaws.{Decoding}
use Rattle.fennelrake.proofs.first_terms.Given as goal

abbrev pub invariant-loop-i : goal.invariant-loop-i
invariant-loop-i l = Decoding l.count l.i l.bytes l.terms
