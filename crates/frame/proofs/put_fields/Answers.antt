-- `put_fields` meets its contract. Assumes nothing.
use native.Mathlib.Omega.{arith}
use Rattle.wire.specs.Field.{total, spell}
use Rattle.frame.proofs.LaidLaws.{laid_none}
use Rattle.frame.proofs.HeadLaws.{field_room, total_more, fields_turn}
use Rattle.frame.proofs.put_fields.Goals as goal

pub loop-i-init : goal.loop-i-init
unfolding total spell
loop-i-init c = (omega arith, laid_none c.args.out.now c.args.at)

pub put_bits-requires : goal.put_bits-requires
put_bits-requires c =
    let l = c.loop-i in
    let room = field_room c.args.widths.now c.args.at l.next l.i c.requires.fields_bound.1 (omega arith) l.invariant.0 in
    omega arith

pub overflow_add-next : goal.overflow_add-next
overflow_add-next c =
    let l = c.loop-i in
    let room = field_room c.args.widths.now c.args.at l.next l.i c.requires.fields_bound.1 (omega arith) l.invariant.0 in
    omega arith

pub loop-i-preserved : goal.loop-i-preserved
loop-i-preserved c =
    let l = c.loop-i in
    let a = c.args in (
      omega (arith, total_more a.widths.now l.i (omega arith)),
      fields_turn a.out.now l.out _ a.widths.now a.values a.at l.i l.next (omega arith) (omega arith) (omega arith) l.invariant.0 l.invariant.1
          c.put_bits.ensures,
    )
