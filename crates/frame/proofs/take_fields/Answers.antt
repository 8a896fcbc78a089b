-- `take_fields` meets its contract. Assumes nothing.
use native.Mathlib.Omega.{arith}
use mathlib.Core.Path.{refl}
use Rattle.wire.specs.Field.{total, scan}
use Rattle.frame.proofs.HeadLaws.{field_room, total_more, values_turn}
use Rattle.frame.proofs.take_fields.Goals as goal

pub loop-i-init : goal.loop-i-init
unfolding total scan
loop-i-init c = (omega arith, refl)

pub take_bits-requires : goal.take_bits-requires
take_bits-requires c =
    let l = c.loop-i in
    let room = field_room c.args.widths.now c.args.at l.next l.i c.requires.fields_bound.1 (omega arith) l.invariant.0 in
    omega arith

pub overflow_add-next : goal.overflow_add-next
overflow_add-next c =
    let l = c.loop-i in
    let room = field_room c.args.widths.now c.args.at l.next l.i c.requires.fields_bound.1 (omega arith) l.invariant.0 in
    omega arith

pub loop-i-preserved : goal.loop-i-preserved
loop-i-preserved c =
    let l = c.loop-i in
    let a = c.args in (
      omega (arith, total_more a.widths.now l.i (omega arith)),
      values_turn a.bytes.now a.at a.widths.now l.values l.i l.next c.take_bits.result (omega arith) (omega arith) l.invariant.0 l.invariant.1
          c.take_bits.ensures,
    )
