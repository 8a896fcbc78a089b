-- `put_bits` meets its contract. Assumes nothing.
use mathlib.Core.Path.{◌∙◌}
use native.Mathlib.Omega.{arith}
use lib.ListN.{length-set}
use Rattle.wire.proofs.Chunk.{chunks_start, chunks_turn, chunks_done}
use Rattle.wire.proofs.put_bits.Goals as goal

pub loop-left-init : goal.loop-left-init
loop-left-init c = (omega arith, omega arith, omega arith, omega arith, chunks_start _ _ _ _)

pub loop-left-preserved : goal.loop-left-preserved
loop-left-preserved c =
    let l = c.loop-left in (
      omega arith,
      omega arith,
      omega arith,
      simp length-set l.invariant.3,
      chunks_turn _ _ _ _ _ _ l.q l.k c.min-n.result _ _ l.invariant.4 c.with_bits-b.ensures c.cut-x.ensures l.invariant.3 (omega arith) (omega arith)
          (omega arith) (omega arith) (omega arith) (omega arith),
    )

pub returns : goal.returns
returns c = c.loop-left.invariant.4 ∙ chunks_done _ _ _ _ _ (omega arith)
