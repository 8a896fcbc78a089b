-- `values_of` meets its contract. Assumes nothing.
use Prim.Native.Nat.{◌^◌}
use native.Mathlib.Omega.{arith}
use mathlib.Core.Path.{◌≡◌, refl}
use mathlib.Core.Bool.{true}
use lib.Dec.{lit≤}
use Rattle.paper.specs.Frame.{row_of, grades_known}
use Rattle.paper.specs.Write.{within, head_within}
use Rattle.paper.proofs.WriteLaws.{and_left, and_right}
use Rattle.frame.specs.Write.{fitting}
use Rattle.frame.proofs.HeadLaws.{less_fits, less_within, graded_kind, graded_values, no_kind}
use Rattle.frame.proofs.values_of.Goals as goal

pub returns-in-1 : goal.returns-in-1
unfolding row_of grades_known fitting head_within
returns-in-1 c =
    λ ts us.
    let a = c.args in
    rw (c.in-1.is, c.less_one.ensures) (record {
      grades = refl;
      fit = rw (less_fits a.pairs 4 (lit≤ tt));
      are = λ e. rw (less_within a.pairs 4 (lit≤ tt) (search (and_left, and_right)));
    })

pub returns-in-2 : goal.returns-in-2
unfolding row_of grades_known fitting head_within
returns-in-2 c = λ ts us. rw c.in-2.is (record { grades = refl; fit = refl; are = λ _. refl })

pub returns-in-3 : goal.returns-in-3
unfolding row_of grades_known fitting head_within
returns-in-3 c =
    λ ts us.
    let a = c.args in
    rw (c.in-3.is, c.less_one-in-3.ensures, c.less_one-in-3-2.ensures) (record {
      grades = refl;
      fit = rw (less_fits a.k 4 (lit≤ tt), less_fits a.pairs 3 (lit≤ tt));
      are = λ e.
          let k : within (2 ^ 4) a.k ≡ true = search (and_left, and_right) in
          let m : within (2 ^ 3) a.pairs ≡ true = search (and_left, and_right) in
          rw (less_within a.k 4 (lit≤ tt) k, less_within a.pairs 3 (lit≤ tt) m);
    })

pub returns-in-4 : goal.returns-in-4
unfolding row_of grades_known fitting head_within
returns-in-4 c = λ ts us. rw c.in-4.is (record { grades = refl; fit = refl; are = λ _. refl })

pub returns-in-5 : goal.returns-in-5
unfolding row_of grades_known fitting head_within
returns-in-5 c = λ ts us. rw c.in-5.is (record { grades = refl; fit = refl; are = λ _. refl })

pub returns-in-6 : goal.returns-in-6
returns-in-6 c = λ ts us. graded_values _ _ (graded_kind c.args.kind (omega arith) (omega arith)) (rw c.less_one-in-6.ensures)

pub returns-in_default : goal.returns-in_default
unfolding grades_known fitting head_within
returns-in_default c =
    λ ts us.
    let e = (no_kind c.args.kind (omega arith) (omega arith) (omega arith) (omega arith) (omega arith) (λ h l. omega arith)).row in
    record { grades = rw e; fit = rw e; are = λ _. rw e }

pub returns-in_default-2 : goal.returns-in_default-2
unfolding grades_known fitting head_within
returns-in_default-2 c =
    λ ts us.
    let e = (no_kind c.args.kind (omega arith) (omega arith) (omega arith) (omega arith) (omega arith) (λ h l. omega arith)).row in
    record { grades = rw e; fit = rw e; are = λ _. rw e }
