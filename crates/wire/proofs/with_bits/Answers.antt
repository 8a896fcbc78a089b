-- `with_bits` meets its contract. Assumes nothing.
use mathlib.Core.Path.{◌≡◌}
use Prim.Native.Nat.{ℕ, ◌<◌}
use native.Mathlib.Omega.{arith}
use lib.Seq.{paste}
use Rattle.wire.specs.Bits.{bits}
use Rattle.wire.proofs.Chunk.{patched, byte_patch}
use Rattle.wire.proofs.with_bits.Goals as goal

-- what the code makes
patch : (c : goal.After-pow2-low) → let a = c.args in
    let y : ℕ = patched c.from-w.result c.pow2-top.result c.pow2-low.result a.x in
    (y < 256) × (bits 8 y ≡ paste (bits 8 a.b) a.k (bits a.n a.x) a.n)
patch c =
    let a = c.args in
    rw c.from-w.ensures
    (byte_patch a.b a.k a.n a.x c.pow2-top.result c.pow2-low.result (omega arith) (omega arith) c.requires.1 c.pow2-top.ensures c.pow2-low.ensures)

pub overflow_cast-result : goal.overflow_cast-result
overflow_cast-result c = let h = patch c in omega arith

pub returns : goal.returns
returns c = (patch c).1
