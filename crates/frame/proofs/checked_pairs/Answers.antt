-- `checked_pairs` meets its contract. Assumes nothing.
use Prim.Native.Nat.{◌+◌, ◌*◌}
use native.Mathlib.Omega.{arith}
use Rattle.frame.proofs.ReadLaws.{passed_on, fit_length, checked_misfit, checked_grade, checked_taken}
use Rattle.frame.proofs.checked_pairs.Goals as goal

pub returns-in_err-misfit : goal.returns-in_err-misfit
returns-in_err-misfit c =
    let a = c.args in
    rw (passed_on _ c.in_err-misfit.field-0.0 c.from_residual.ensures.1)
    (checked_misfit a.bytes.now a.head a.width a.m a.known c.in_err-misfit.field-0.0 c.in_err-misfit.ensures)

pub returns-then-not-known : goal.returns-then-not-known
returns-then-not-known c =
    let a = c.args in
    checked_grade a.bytes.now a.head a.width a.m a.known c.in_ok-misfit.ensures c.if-not-known.true

pub take_pairs-requires : goal.take_pairs-requires
take_pairs-requires c =
    let a = c.args in
    let long = fit_length a.bytes.now (a.head + a.m * (10 + a.width)) c.in_ok-misfit.ensures in
    omega arith

pub returns : goal.returns
returns c =
    let a = c.args in
    checked_taken a.bytes.now a.head a.width a.m a.known c.in_ok-misfit.ensures c.take_pairs.result c.if-not-known.false c.take_pairs.ensures
