-- `read` meets its contract. Assumes nothing.
use native.Mathlib.Omega.{arith}
use lib.ListN.{length}
use borrow.Author.Tests.{lt-ltb, le-ltb}
use Rattle.paper.specs.Frame.{shape}
use Rattle.frame.proofs.read.Goals as goal

pub returns-then-bytes-lt5 : goal.returns-then-bytes-lt5
unfolding shape
returns-then-bytes-lt5 c = rw (lt-ltb (length c.args.bytes.now) 5 (omega arith))

pub returns : goal.returns
unfolding shape
returns c = rw (le-ltb (length c.args.bytes.now) 5 (omega arith)) c.read_fields.ensures
