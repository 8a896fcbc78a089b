-- `take_bits` meets its contract. Assumes nothing.
use Prim.Native.Nat.{◌^◌, ◌<◌}
use native.Mathlib.Omega.{arith}
use native.Mathlib.Nat.{sub_self}
use Rattle.wire.specs.Field.{field}
use Rattle.wire.specs.Bits.{num}
use Rattle.wire.proofs.FieldLaws.{field_fits}
use Rattle.wire.proofs.Gather.{gather_turn, gather_done}
use Rattle.wire.proofs.take_bits.Goals as goal

pub loop-i-init : goal.loop-i-init
unfolding field num
loop-i-init c = rw sub_self

pub overflow_mul-acc : goal.overflow_mul-acc
overflow_mul-acc c = let h : c.loop-i.acc < 2 ^ 40 = rw c.loop-i.invariant (field_fits _ _ _ 40 (omega arith)) in omega arith

pub overflow_add-acc : goal.overflow_add-acc
overflow_add-acc c = let h : c.loop-i.acc < 2 ^ 40 = rw c.loop-i.invariant (field_fits _ _ _ 40 (omega arith)) in omega arith

pub loop-i-preserved : goal.loop-i-preserved
loop-i-preserved c =
    rw c.from.ensures (gather_turn _ _ _ _ c.loop-i.invariant (omega arith) (omega arith) (omega (arith, c.type_inv.s c.loop-i.i)))

pub returns : goal.returns
returns c = gather_done _ _ c.args.width _ _ _ _ c.loop-i.invariant (omega arith) (omega arith) (omega arith) (omega arith)
