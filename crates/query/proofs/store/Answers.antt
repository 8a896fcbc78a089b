-- `store` meets its contract. Assumes nothing.
use native.Mathlib.Omega.{arith}
use Rattle.query.proofs.StoreLaws.{stored_kept}
use Rattle.query.proofs.store.Goals as goal

pub returns : goal.returns
returns c =
    let a = c.args in
    stored_kept a.q a.list a.state.now c.put.new.s (omega arith) (omega arith) (omega arith) c.put.ensures
    c.store.ensures c.store-2.ensures c.store-3.ensures c.store-4.ensures
