-- `keep_list` meets its contract. Assumes nothing.
use native.Mathlib.Omega.{arith}
use Rattle.memory.proofs.KeepsLaws.{keeps_wider}
use Rattle.query.specs.Record.{flags}
use Rattle.query.proofs.keep_list.Goals as goal

pub returns : goal.returns
unfolding flags
returns c =
    let t = c.store.ensures in
    record { keeps = keeps_wider (omega arith) (omega arith) t.keeps; flags_are = t.reads }
