-- `put_numbers` meets its contract. Assumes nothing.
use native.Mathlib.Omega.{arith}
use Rattle.screen.proofs.WaitLaws.{numbering_all}
use Rattle.screen.proofs.put_numbers.Goals as goal

pub returns : goal.returns
returns c = numbering_all (omega arith) c.loop-q.invariant
