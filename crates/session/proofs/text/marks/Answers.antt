-- `marks` meets its contract: eight digits hold 32 bits. Assumes nothing.
use Prim.Native.Nat.{ℕ}
use native.Mathlib.Omega.{arith}
use mathlib.Core.Path.{◌≡◌, ap, ◌∙◌}
use Rattle.io.specs.Digits.{last_digits}
use Rattle.session.specs.Text.{marks_field}
use Rattle.session.proofs.TextLaws.{put_same, put_then, fewest_most}
use Rattle.session.proofs.text.marks.Goals as goal

pub put-requires : goal.put-requires
put-requires c =
    let e = rw c.from.ensures at c.hex-k.ensures in
    let m = fewest_most 16 8 c.args.marked c.hex-k.result 8 (omega arith) e.len (omega arith) (omega arith) in
    omega (arith, e.in_bounds.1, m)

pub returns : goal.returns
unfolding marks_field
returns c =
    let e = rw c.from.ensures at c.hex-k.ensures in
    let k = c.hex-k.result in
    let n = c.args.marked in
    let m = fewest_most 16 8 n k 8 (omega arith) e.len (omega arith) (omega arith) in
    let eight : k ≡ 8 = omega (arith, e.len.0) in
    let text = e.digits ∙ ap (λ (j : ℕ). last_digits 16 j n) eight in
    let p = put_then c.put-next.ensures (put_same text c.put.ensures) in
    record { put = p; upper_bound = omega (arith, p.end) }
