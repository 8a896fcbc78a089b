-- `row_of` meets its contract. Assumes nothing.
use native.Mathlib.Omega.{arith}
use Rattle.wire.specs.Field.{total}
use Rattle.paper.specs.Frame.{message_row, tick_row, register_row, unregister_row, cancel_row, graded_row, long_row, no_row, row_of}
use Rattle.paper.proofs.FrameLaws.{no_row_lem}
use Rattle.frame.proofs.HeadLaws.{row_as}
use Rattle.frame.proofs.row_of.Goals as goal

pub returns-in-1 : goal.returns-in-1
unfolding row_of total
returns-in-1 c = rw c.in-1.is (row_as message_row _ c.row_with.ensures)

pub returns-in-2 : goal.returns-in-2
unfolding row_of total
returns-in-2 c = rw c.in-2.is (row_as tick_row _ c.row_with-in-2.ensures)

pub returns-in-3 : goal.returns-in-3
unfolding row_of total
returns-in-3 c = rw c.in-3.is (row_as register_row _ c.row_with-in-3.ensures)

pub returns-in-4 : goal.returns-in-4
unfolding row_of total
returns-in-4 c = rw c.in-4.is (row_as unregister_row _ c.row_with-in-4.ensures)

pub returns-in-5 : goal.returns-in-5
unfolding row_of total
returns-in-5 c = rw c.in-5.is (row_as cancel_row _ c.row_with-in-5.ensures)

pub returns-in-6 : goal.returns-in-6
unfolding row_of total
returns-in-6 c = rw c.in-6.is (row_as graded_row _ c.row_with-in-6.ensures)

pub returns-in-7 : goal.returns-in-7
unfolding row_of total
returns-in-7 c = rw c.in-7.is (row_as long_row _ c.row_with-in-7.ensures)

pub returns-in_default : goal.returns-in_default
unfolding total
returns-in_default c =
    rw (no_row_lem c.args.kind (omega arith) (omega arith) (omega arith) (omega arith) (omega arith) (omega arith) (omega arith))
    (row_as no_row _ c.row_with-in_default.ensures)
