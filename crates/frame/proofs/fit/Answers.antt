-- `fit` meets its contract. Assumes nothing.
use Prim.Native.Nat.{◌^◌}
use native.Mathlib.Omega.{arith}
use mathlib.Core.Path.{sym, ◌∙◌}
use lib.ListN.{get_or}
use borrow.Author.Tests.{lt-ltb, le-ltb}
use Rattle.wire.proofs.BitLaws.{one_shl}
use Rattle.std.proofs.lemmas.List.{drop_all}
use Rattle.frame.specs.Write.{fitting}
use Rattle.frame.proofs.HeadLaws.{narrow_at, fit_next}
use Rattle.frame.proofs.fit.Goals as goal

pub returns-then-widths-i : goal.returns-then-widths-i
returns-then-widths-i c =
    let a = c.args in
    let i = c.loop-i.i in
    let w = get_or a.widths.now i 0 in
    let narrow = narrow_at a.widths.now i c.requires.1 in
    let e = one_shl w 64 (omega arith) in
    rw (le-ltb (get_or a.values i 0) (2 ^ w) (omega arith)) at (sym (fit_next a.widths.now a.values i (omega arith) (omega arith)) ∙ c.loop-i.invariant)

pub loop-i-preserved : goal.loop-i-preserved
loop-i-preserved c =
    let a = c.args in
    let i = c.loop-i.i in
    let w = get_or a.widths.now i 0 in
    let narrow = narrow_at a.widths.now i c.requires.1 in
    let e = one_shl w 64 (omega arith) in
    rw (lt-ltb (get_or a.values i 0) (2 ^ w) (omega arith)) at (sym (fit_next a.widths.now a.values i (omega arith) (omega arith)) ∙ c.loop-i.invariant)

pub returns : goal.returns
unfolding fitting
returns c =
    let a = c.args in
    rw (drop_all c.loop-i.i a.widths.now (omega arith)) at c.loop-i.invariant
