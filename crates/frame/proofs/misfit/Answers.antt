-- `misfit` meets its contract. Assumes nothing.
use native.Mathlib.Omega.{arith}
use lib.ListN.{length}
use borrow.Author.Tests.{eq-eqb, ne_eqb}
use Rattle.paper.specs.Frame.{bytes_for}
use Rattle.frame.specs.Read.{fit_number}
use Rattle.frame.proofs.misfit.Goals as goal

pub returns-then-bytes-size : goal.returns-then-bytes-size
unfolding fit_number
returns-then-bytes-size c =
    let a = c.args in
    rw (ne_eqb (length a.bytes.now) (bytes_for a.bits) (λ e. omega arith))

pub returns-then-fill-ne0 : goal.returns-then-fill-ne0
unfolding fit_number
returns-then-fill-ne0 c =
    let a = c.args in
    rw (eq-eqb (length a.bytes.now) (bytes_for a.bits) (omega arith), ← c.take_bits-fill.ensures, ne_eqb c.take_bits-fill.result 0 (λ z. omega arith))

pub returns : goal.returns
unfolding fit_number
returns c =
    let a = c.args in
    rw (eq-eqb (length a.bytes.now) (bytes_for a.bits) (omega arith), ← c.take_bits-fill.ensures, eq-eqb c.take_bits-fill.result 0 (omega arith))
