-- `framed` meets its contract. Assumes nothing.
use native.Mathlib.Omega.{arith}
use mathlib.Core.Path.{refl}
use Rattle.paper.specs.Frame.{frame_of}
use Rattle.frame.proofs.HeadLaws.{graded_kind, graded_answer, no_kind}
use Rattle.frame.proofs.framed.Goals as goal

pub returns-in-1 : goal.returns-in-1
unfolding frame_of
returns-in-1 c = λ ps known em. rw (c.in-1.is, em) (_, refl, refl)

pub returns-in-2 : goal.returns-in-2
unfolding frame_of
returns-in-2 c = λ ps known em. rw c.in-2.is (_, refl, refl)

pub returns-in-3 : goal.returns-in-3
unfolding frame_of
returns-in-3 c = λ ps known em. rw (c.in-3.is, em) (_, refl, refl)

pub returns-in-4 : goal.returns-in-4
unfolding frame_of
returns-in-4 c = λ ps known em. rw c.in-4.is (_, refl, refl)

pub returns-in-5 : goal.returns-in-5
unfolding frame_of
returns-in-5 c = λ ps known em. rw c.in-5.is (_, refl, refl)

pub returns-in-6 : goal.returns-in-6
returns-in-6 c = let a = c.args in graded_answer (graded_kind a.kind (omega arith) (omega arith)) a.values a.m

pub returns-in_default : goal.returns-in_default
returns-in_default c =
    λ ps known em.
    (no_kind c.args.kind (omega arith) (omega arith) (omega arith) (omega arith) (omega arith) (λ h l. omega arith)).frame c.args.values ps

pub returns-in_default-2 : goal.returns-in_default-2
returns-in_default-2 c =
    λ ps known em.
    (no_kind c.args.kind (omega arith) (omega arith) (omega arith) (omega arith) (omega arith) (λ h l. omega arith)).frame c.args.values ps
