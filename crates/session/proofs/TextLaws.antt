-- Text in a buffer: put after other text; numbers spelled. Assumes nothing.
use Prim.Native.Nat.{ℕ, zero, suc, ◌-◌, ◌/◌, ◌%◌, ◌^◌, ◌≤◌, ◌<◌}
use native.Mathlib.Nat.{pow-suc, pow-le-pow_right}
use native.Mathlib.Omega.{arith}
use mathlib.Core.Path.{◌≡◌, refl, sym, ap, ◌∙◌, subst}
use mathlib.Core.Bool.{Bool, true, false}
use mathlib.Core.List.{List, [], ◌∷◌, ◌++◌, append_assoc, append-nil}
use lib.ListN.{take, length-append}
use lib.Dec.{ltb, eqb}
use borrow.Author.Tests.{ltb-true, ltb-false, lt-ltb, le-ltb}
use Rattle.io.specs.Digits.{hex_digit_ascii, last_digits, IsDigitCount}
use Rattle.engine.specs.Told.{ToldList}
use Rattle.engine.specs.Post.{ListPost}
use Rattle.session.specs.Text.{spelled, list_line, Shown, marks_from, Lists, Put, Printed}

-- ---- the buffer

pub put_nothing : (at : ℕ) (out : List ℕ) → Put [] at out at out
put_nothing at out = record { long = refl; end = omega arith; bytes = sym (append-nil (take at out)) }

pub put_then : {a b out out₁ out₂ : List ℕ} {at r r₁ : ℕ} → Put a at out r out₁ → Put b r out₁ r₁ out₂ → Put (a ++ b) at out r₁ out₂
put_then {a} {b} {out} {at = at} p q =
    record {
      long = q.long ∙ p.long;
      end = let l = length-append a b in let e = p.end in let f = q.end in omega arith;
      bytes = q.bytes ∙ ap (λ (t : List ℕ). t ++ b) p.bytes ∙ append_assoc (take at out) a b;
    }

pub put_same : {a b out out₁ : List ℕ} {at r : ℕ} → a ≡ b → Put a at out r out₁ → Put b at out r out₁
put_same {out = out} {out₁ = out₁} {at = at} {r = r} e p = subst (λ (t : List ℕ). Put t at out r out₁) e p

-- ---- numbers

-- one digit less holds the number without its last digit
fewest_less : (k n : ℕ) → IsDigitCount 10 1 n (suc (suc k)) → (10 ≤ n) × IsDigitCount 10 1 (n / 10) (suc k)
fewest_less k n f =
    let e = pow-suc 10 k in
    let e' = pow-suc 10 (suc k) in
    let one = pow-le-pow_right {n = 10} (omega arith) {i = 0} {j = k} (omega arith) in
    let low : 10 ^ suc k ≤ n = subst (λ (j : ℕ). 10 ^ j ≤ n) (suc_sub_one (suc k)) (f.2 (omega arith)) in
    (omega arith, (omega arith, omega (arith, f.1), λ _. subst (λ (j : ℕ). 10 ^ j ≤ n / 10) (sym (suc_sub_one k)) (omega arith)))
  where
    suc_sub_one : (j : ℕ) → suc j - 1 ≡ j
    suc_sub_one j = omega arith

-- the fewest digits that hold a number spell it
pub spelled_fewest : (k most n : ℕ) → IsDigitCount 10 1 n k → k ≤ most → last_digits 10 k n ≡ spelled most n
unfolding spelled
spelled_fewest zero most n f h = absurd (omega (arith, f.0))
spelled_fewest (suc k) zero n f h = absurd (omega arith)
spelled_fewest (suc zero) (suc most) n f h = let low : n < 10 = f.1 in rw (lt-ltb n 10 low) refl
spelled_fewest (suc (suc k)) (suc most) n f h =
    let less = fewest_less k n f in
    rw (le-ltb n 10 less.0) (ap (λ (t : List ℕ). t ++ (hex_digit_ascii (n % 10) ∷ [])) (spelled_fewest (suc k) most (n / 10) less.1 (omega arith)))

-- as many digits as hold the number, or as are asked, are enough
pub fewest_most : (b least n k most : ℕ) → 0 < b → IsDigitCount b least n k → n < b ^ most → least ≤ most → k ≤ most
fewest_most b least n k most pos f h le = go (ltb most k) refl
  where
    go : (t : Bool) → ltb most k ≡ t → k ≤ most
    go true e =
        let more = ltb-true most k e in
        let low = f.2 (omega arith) in
        let p = pow-le-pow_right {n = b} pos {i = most} {j = k - 1} (omega arith) in
        absurd (omega arith)
    go false e = ltb-false most k e

-- ---- lists

module _ (s : List ℕ) (q at : ℕ) (out : List ℕ) where
  pub shown_unmarked : (m : Bool) → m ≡ false → Printed (Shown s q m) at out at out
  shown_unmarked m e = rw e (record { text = []; right = Shown.unmarked; put = put_nothing at out })

  module _ (m : Bool) (marked : m ≡ true) (r : ToldList) (post : ListPost s q r) where
    pub shown_unregistered : (r.number ≡ 0 → ⊥) → Printed (Shown s q m) at out at out
    shown_unregistered refused = rw marked (record { text = []; right = Shown.unregistered r post refused; put = put_nothing at out })

    pub shown_registered : {end : ℕ} {out' : List ℕ} → r.number ≡ 0 → Put (list_line q r.list.serials r.list.scores r.list.count) at out end out'
        → Printed (Shown s q m) at out end out'
    shown_registered accepted p =
        rw marked (record { text = list_line q r.list.serials r.list.scores r.list.count; right = Shown.registered r post accepted; put = p })

pub lists_none : (s : List ℕ) (marks at : ℕ) (out : List ℕ) → Printed (Lists s marks 0) at out at out
lists_none s marks at out = record { text = []; right = Lists.none; put = put_nothing at out }

pub lists_next : {s out out₁ out₂ : List ℕ} {marks left q at end end₁ : ℕ} → left ≡ marks_from marks q → Printed (Lists s marks q) at out end out₁
    → Printed (Shown s q (eqb (left % 2) 1)) end out₁ end₁ out₂ → Printed (Lists s marks (suc q)) at out end₁ out₂
lists_next {s} {q = q} e all one =
    record {
      text = all.text ++ one.text;
      right = Lists.next all.right (subst (λ (l : ℕ). Shown s q (eqb (l % 2) 1) one.text) e one.right);
      put = put_then all.put one.put;
    }
