-- `asked_refusal` meets its contract. Assumes nothing.
use native.Mathlib.Omega.{arith}
use lib.ListN.{length}
use borrow.Author.Tests.{lt-ltb, le-ltb, eq-eqb, ne_eqb}
use Rattle.wire.specs.Field.{field}
use Rattle.frame.specs.Ask.{asked_number}
use Rattle.frame.proofs.asked_refusal.Goals as goal

pub returns-then-kind-ne3 : goal.returns-then-kind-ne3
unfolding asked_number
returns-then-kind-ne3 c =
    let s = c.args.bytes.now in
    rw (le-ltb (length s) 5 (omega arith), ne_eqb (field s 0 4) 3 (λ e. omega arith))

pub returns-else-kind-ne3 : goal.returns-else-kind-ne3
unfolding asked_number
returns-else-kind-ne3 c =
    let s = c.args.bytes.now in
    rw (le-ltb (length s) 5 (omega arith), eq-eqb (field s 0 4) 3 (omega arith))

pub returns-else-bytes-ge5 : goal.returns-else-bytes-ge5
unfolding asked_number
returns-else-bytes-ge5 c = rw (lt-ltb (length c.args.bytes.now) 5 (omega arith))
