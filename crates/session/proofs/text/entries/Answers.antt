-- `entries` meets its contract. Assumes nothing.
use native.Mathlib.Numerals.{add-one}
use native.Mathlib.Omega.{arith}
use Rattle.session.specs.Text.{entries}
use Rattle.session.proofs.TextLaws.{put_nothing, put_then}
use Rattle.session.proofs.text.entries.Goals as goal

pub loop-i-init : goal.loop-i-init
unfolding entries
loop-i-init c = (put_nothing c.args.at c.args.out.now, omega arith)

pub loop-i-preserved : goal.loop-i-preserved
unfolding entries
loop-i-preserved c =
    let inv = c.loop-i.invariant in
    let serial = rw c.from.ensures at c.field-next.ensures in
    let score = rw c.from-in-loop-i.ensures at c.field-end.ensures in
    (rw add-one (put_then inv.0 (put_then serial.put score.put)), omega arith)
