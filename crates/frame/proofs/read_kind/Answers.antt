-- `read_kind` meets its contract. Assumes nothing.
use native.Mathlib.Omega.{arith}
use lib.ListN.{length-map}
use Rattle.wire.specs.Field.{total}
use Rattle.paper.specs.Frame.{row_of, width}
use Rattle.frame.proofs.HeadLaws.{small}
use Rattle.frame.proofs.ReadLaws.{Headed, passed_on, not_empty, unknown_row, kind_short, few, third, kind_refused, kind_unframed, kind_framed}
use Rattle.frame.proofs.read_kind.Goals.{After-graded-known}
use Rattle.frame.proofs.read_kind.Goals as goal

headed : (c : After-graded-known) → Headed c.args.bytes.now c.args.kind c.row_of-row.result c.take_fields-values.result c.pairs_by-m.result
headed c = record {
  row = c.row_of-row.ensures;
  has = not_empty c.row_of-row.result.widths.now c.if-is_empty.ensures;
  read = rw (← c.requires) c.take_fields-values.ensures;
  said = c.pairs_by-m.ensures;
}

pub returns-then-is_empty : goal.returns-then-is_empty
returns-then-is_empty c = unknown_row c.args.bytes.now c.args.kind c.row_of-row.result c.row_of-row.ensures c.if-is_empty.ensures

pub overflow_add-row : goal.overflow_add-row
overflow_add-row c = let b = small c.args.bytes.now c.args.kind in omega arith

pub returns-then-bytes-row : goal.returns-then-bytes-row
returns-then-bytes-row c =
    let a = c.args in
    let r = c.row_of-row.result in
    kind_short a.bytes.now a.kind r c.row_of-row.ensures (not_empty r.widths.now c.if-is_empty.ensures) (omega arith)

pub take_fields-values-requires : goal.take_fields-values-requires
unfolding total
take_fields-values-requires c =
    let b = small c.args.bytes.now c.args.kind in
    let n = length-map (row_of c.args.kind).head width in
    rw c.row_of-row.ensures.widths (record { widths_bound = (omega arith, omega arith); fields_bound = (omega arith, b.narrow) })

pub pairs_by-m-requires : goal.pairs_by-m-requires
pairs_by-m-requires c =
    let b = small c.args.bytes.now c.args.kind in
    let n = length-map (row_of c.args.kind).head width in
    (not_empty c.row_of-row.result.widths.now c.if-is_empty.ensures, rw c.row_of-row.ensures.widths (omega arith))

pub checked_pairs-requires : goal.checked_pairs-requires
checked_pairs-requires c = let h = few (headed (goal.at.checked_pairs-requires c).After-graded-known) in omega arith

pub returns-in_err-pairs : goal.returns-in_err-pairs
returns-in_err-pairs c =
    let h = headed (goal.at.returns-in_err-pairs c).After-graded-known in
    let e = c.in_err-pairs.field-0.0 in
    rw (passed_on _ e c.from_residual.ensures.1) (kind_refused h c.graded-known.ensures e c.in_err-pairs.ensures)

pub framed-requires : goal.framed-requires
framed-requires c = third (headed (goal.at.framed-requires c).After-graded-known)

pub returns-in_err-what : goal.returns-in_err-what
returns-in_err-what c =
    let h = headed (goal.at.returns-in_err-what c).After-graded-known in
    let e = c.in_err-what.field-0.0 in
    rw (passed_on _ e c.from_residual-in_err-what.ensures.1)
    (kind_unframed h c.graded-known.ensures c.in_ok-pairs.pairs c.in_ok-pairs.ensures e c.in_err-what.ensures)

pub returns : goal.returns
returns c =
    let h = headed (goal.at.returns c).After-graded-known in
    kind_framed h c.graded-known.ensures c.in_ok-pairs.pairs c.in_ok-pairs.ensures c.in_ok-what.what c.in_ok-what.ensures
