-- `graded` meets its contract. Assumes nothing.
use Prim.Native.Nat.{ℕ, ◌≤◌, ◌<◌}
use native.Mathlib.Omega.{arith}
use mathlib.Core.Path.{◌≡◌, refl, sym}
use mathlib.Core.Bool.{Bool, true, false}
use lib.ListN.{get_or}
use lib.Dec.{leb}
use borrow.Author.Tests.{ltb-true, ltb-false, le-leb, lt-leb}
use Rattle.frame.proofs.HeadLaws.{graded_kind, grade_none, grade_third}
use Rattle.frame.proofs.graded.Goals as goal

-- a test of a number that holds exactly up to 2
up_to_two : (v : ℕ) (b : Bool) → (b ≡ true → v ≤ 2) → (b ≡ false → 2 < v) → b ≡ leb v 2
up_to_two v true h k = sym (le-leb v 2 (h refl))
up_to_two v false h k = sym (lt-leb v 2 (k refl))

pub returns-in-6 : goal.returns-in-6
returns-in-6 c =
    let a = c.args in
    let v = get_or a.values 2 0 in
    rw (grade_third (graded_kind a.kind (omega arith) (omega arith)) a.values)
    (up_to_two v _ (λ e. omega (arith, ltb-true v _ e)) (λ e. omega (arith, ltb-false v _ e)))

pub returns-in_default : goal.returns-in_default
returns-in_default c = let a = c.args in sym (grade_none a.values a.kind (λ h l. omega arith))

pub returns-in_default-2 : goal.returns-in_default-2
returns-in_default-2 c = let a = c.args in sym (grade_none a.values a.kind (λ h l. omega arith))
