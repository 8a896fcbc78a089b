-- `postings` meets its contract. Assumes nothing.
use native.Mathlib.Omega.{arith}
use Rattle.engine.proofs.PostingLaws.{postings_no_term, postings_no_room, postings_right}
use Rattle.engine.proofs.postings.Goals as goal

pub returns-then-term-ge-TERMS : goal.returns-then-term-ge-TERMS
returns-then-term-ge-TERMS c = postings_no_term _ _ _ c.in-Some.ensures.cases.long (omega arith)

pub returns-then-out-found : goal.returns-then-out-found
returns-then-out-found c =
    let lent = c.in-Some.ensures.cases in
    postings_no_room _ _ _ lent.long (omega arith) (rw lent.same at c.load.ensures) (rw lent.same at c.having-found.ensures) (omega arith)

pub returns : goal.returns
returns c =
    let lent = c.in-Some.ensures.cases in
    postings_right _ _ _ lent.long (omega arith) (rw lent.same at c.load.ensures) (rw lent.same at c.having-found.ensures) (omega arith)
    (rw lent.same at c.write.ensures)
