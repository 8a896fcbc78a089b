-- `put_query` meets its contract. Assumes nothing.
use native.Mathlib.Omega.{arith}
use Rattle.query.proofs.RegisterLaws.{query_put}
use Rattle.query.proofs.put_query.Goals as goal

pub returns : goal.returns
returns c =
    let a = c.args in
    query_put _ _ a.q a.query.k a.query.n (omega arith) (omega arith) (omega arith) (omega arith) c.put.ensures c.put-2.ensures
    a.query.terms a.query.weights (omega arith) (omega arith) c.packed.ensures c.store.ensures
