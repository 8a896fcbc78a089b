-- `put_pairs` meets its contract. Assumes nothing.
use Prim.Native.Nat.{◌+◌}
use native.Mathlib.Omega.{arith}
use native.Mathlib.Nat.{zero-mul, add-zero}
use Rattle.wire.specs.Field.{spell}
use Rattle.paper.specs.Frame.{pair_widths}
use Rattle.frame.specs.Write.{pair_bits}
use Rattle.frame.proofs.PairLaws.{pair_next}
use Rattle.frame.proofs.LaidLaws.{laid_none}
use Rattle.frame.proofs.WriteLaws.{put_turn}
use Rattle.frame.proofs.put_pairs.Goals as goal

pub loop-i-init : goal.loop-i-init
unfolding pair_bits spell pair_widths
loop-i-init c =
    let a = c.args in
    (rw (zero-mul (10 + a.width), add-zero a.at), laid_none a.out.now a.at)

pub loop-i-preserved : goal.loop-i-preserved
loop-i-preserved c =
    let l = c.loop-i in
    let a = c.args in (
      pair_next a.at l.i (10 + a.width) l.next l.invariant.0,
      put_turn a.out.now l.out c.put_bits.new.s _ a.terms.now a.amounts.now a.at a.width l.i l.next
          (omega arith) (omega arith) (omega arith) l.invariant.0 l.invariant.1 c.put_bits.ensures c.put_bits-in-loop-i.ensures,
    )
