-- `raise_one` meets its contract. Assumes nothing.
use native.Mathlib.Omega.{arith}
use Rattle.memory.specs.Words.{words}
use Rattle.engine.proofs.ArrivingLaws.{raised_one}
use Rattle.engine.proofs.raise_one.Goals as goal

pub returns : goal.returns
returns c =
    let a = c.args in
    let e = c.raise_all.ensures in (e.0, raised_one (words a.state.now) a.j (omega arith) e.1)
