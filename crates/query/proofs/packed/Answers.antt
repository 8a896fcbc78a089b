-- `packed` meets its contract. Assumes nothing.
use native.Mathlib.Omega.{arith}
use borrow.Author.Rules.{rules}
use Rattle.query.proofs.RegisterLaws.{packed_all}
use Rattle.query.proofs.packed.Goals as goal

pub returns : goal.returns
returns c = packed_all (omega arith) (search rules) (search rules) c.loop-i.invariant
