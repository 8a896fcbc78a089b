-- `load_query` meets its contract. Assumes nothing.
use native.Mathlib.Omega.{arith}
use Rattle.query.proofs.FillLaws.{filled_all}
use Rattle.query.proofs.QueryLaws.{loaded_query}
use Rattle.memory.specs.Words.{words}
use Rattle.query.proofs.load_query.Goals as goal

pub returns : goal.returns
returns c =
    let a = c.args in
    let e = c.load-pairs.ensures in
    loaded_query (words a.state.now) a.q _ (rw (← c.get.ensures) c.min.ensures) (rw (← c.get-2.ensures) c.clamp-2.ensures)
    (filled_all (omega arith) e c.loop-i.invariant.0) (filled_all (omega arith) e c.loop-i.invariant.1)
