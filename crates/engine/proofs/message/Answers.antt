-- `message` meets its contract. Assumes nothing.
use native.Mathlib.Omega.{arith}
use Rattle.engine.proofs.KindLaws.{known, room_left, message_done}
use Rattle.engine.proofs.message.Goals as goal

pub returns-then-has_serial : goal.returns-then-has_serial
returns-then-has_serial c = λ g e. search known

pub returns : goal.returns
returns c =
    let capacity = c.capacity_of.ensures in
    let loaded = c.load-before.ensures in
    let advanced = c.advanced-aged.ensures in
    let shorter = advanced.moved.count_most in
    let few = loaded.count_below in
    λ g e. message_done g e loaded c.get-life.ensures advanced (omega arith) c.has_serial.ensures c.if-has_serial.false capacity c.roomy-after.ensures
    c.join.ensures (room_left capacity c.roomy-after.ensures (omega arith))
