-- `first_terms` meets its contract. Assumes nothing.
use native.Mathlib.Omega.{arith}
use Rattle.fennelrake.proofs.TermLaws.{decoding_more}
use Rattle.fennelrake.proofs.first_terms.Goals as goal

pub loop-i-preserved : goal.loop-i-preserved
loop-i-preserved c = decoding_more (omega arith) (omega arith) (omega arith) (omega arith) c.loop-i.invariant
