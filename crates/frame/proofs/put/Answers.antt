-- `put` meets its contract. Assumes nothing.
use native.Mathlib.Omega.{arith}
use mathlib.Core.Path.{◌≡◌, ap, sym}
use mathlib.Core.List.{◌∷◌}
use Prim.Native.Nat.{suc}
use lib.ListN.{length, take}
use lib.Seq.{length-take-le}
use Rattle.wire.specs.Field.{total}
use Rattle.paper.specs.Frame.{kind_width}
use Rattle.frame.proofs.HeadLaws.{head_laid}
use Rattle.frame.proofs.WriteLaws.{puts}
use Rattle.frame.proofs.put.Goals as goal

pub put_bits-requires : goal.put_bits-requires
unfolding total
put_bits-requires c = omega arith

pub put_fields-requires : goal.put_fields-requires
unfolding total
put_fields-requires c = record { widths_bound = (omega arith, omega arith); fields_bound = (omega arith, c.requires.bits_value.2) }

pub returns : goal.returns
returns c =
    let a = c.args in
    let s = a.out.now in
    let ws = a.row.widths.now in
    let vs = take (length ws) a.values in
    let t₂ = c.put_fields.new.out in
    let same : length ws ≡ length vs = sym (length-take-le (length ws) a.values (omega arith)) in
    let e : a.row.bits ≡ total (kind_width ∷ ws) = c.requires.bits_value.0 in
    rw (c.put_fill.ensures.0, e)
    (puts (kind_width ∷ ws) (a.kind ∷ vs) a.terms.now a.amounts.now a.row.amount a.pairs (ap suc same) c.requires.amount_bound.1 c.requires.amount_bound.2
    s t₂ c.put_pairs.new.out c.put_fill.new.out (rw e at c.requires.amount_bound_2.1) (omega arith)
    (λ i. (c.slice_known-1.given i).fits) (λ i. (c.slice_known-5-1.given i).fits)
    (head_laid s c.put_bits.new.s t₂ ws vs a.kind c.put_bits.ensures c.put_fields.ensures)
    (rw e at c.put_pairs.ensures) (rw e at c.put_fill.ensures.1))
