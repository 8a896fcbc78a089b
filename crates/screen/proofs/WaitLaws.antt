-- The queries that have an entry left: at first every number, then those that the last round left one. Assumes nothing.
use Prim.Native.Nat.{ℕ, ◌+◌, ◌≤◌, ◌<◌}
use native.Mathlib.Numerals.{add-one}
use native.Mathlib.Omega.{arith}
use mathlib.Core.Path.{◌≡◌, refl, sym, ap, ◌∙◌}
use mathlib.Core.List.{List, [], ◌∷◌, ◌++◌, append-nil}
use lib.ListN.{length, get_or, take, set, length-set}
use lib.Seq.{take-suc, take-suc-set, get_or-set_same, get_or-set_other, ext_get_or}
use borrow.Author.Count.{below_more}
use borrow.Author.Tests.{lt-ltb, le-ltb}
use Rattle.paper.specs.Frame.{numbers}
use Rattle.paper.specs.Sort.{select}
use Rattle.paper.specs.Screen.{upward}
use Rattle.paper.proofs.SortLaws.{select_append}
use Rattle.paper.proofs.ScreenLaws.{upward_length, upward_at}
use Rattle.query.specs.Record.{keys}
use Rattle.screen.specs.Post.{waits, QueryNumbers}

-- ---- every number

-- the first q stand in a
pub record Numbering (q : ℕ) (a : List ℕ) : Type 0 where
  pub long : length a ≡ numbers
  pub most : q ≤ numbers
  pub same : (j : ℕ) → j < q → get_or a j 0 ≡ j

pub numbering_all : {q : ℕ} {a : List ℕ} → numbers ≤ q → Numbering q a → a ≡ upward 0 numbers
numbering_all {q} {a} h p =
    ext_get_or 0 a (upward 0 numbers) (p.long ∙ sym (upward_length 0 numbers))
    (λ j k. p.same j (omega (arith, p.long)) ∙ sym (upward_at 0 numbers j (omega (arith, p.long)) ∙ omega arith))

-- the first `count` are numbers of queries
pub record Known (ns : List ℕ) (count : ℕ) : Type 0 where
  pub long : length ns ≡ numbers
  pub most : count ≤ numbers
  pub below : (j : ℕ) → j < count → get_or ns j 0 < numbers

pub all_known : {a : List ℕ} → a ≡ upward 0 numbers → Known a numbers
all_known e = record {
  long = ap length e ∙ upward_length 0 numbers;
  most = omega arith;
  below = λ j h. rw e (omega (arith, upward_at 0 numbers j h));
}

-- ---- those with an entry at place i

-- of the first j of the numbers, n are in front; those from j on are as they were
pub record Choosing (w : List ℕ) (i : ℕ) (ns a : List ℕ) (n j : ℕ) : Type 0 where
  pub bound : j ≤ length ns
  pub few : n ≤ j
  pub long : length a ≡ length ns
  pub below : (k : ℕ) → k < n → get_or a k 0 < numbers
  pub later : (k : ℕ) → j ≤ k → get_or a k 0 ≡ get_or ns k 0
  pub right : take n a ≡ select (waits w i) (take j ns)

pub choosing_none : {w : List ℕ} {i : ℕ} {ns : List ℕ} {n j : ℕ} → n ≡ 0 → j ≡ 0 → Choosing w i ns ns n j
unfolding select
choosing_none z y =
    rw (z, y)
    (record { bound = omega arith; few = omega arith; long = refl; below = λ k h. absurd (omega arith); later = λ k h. refl; right = refl })

module _ {w : List ℕ} {i : ℕ} {ns a : List ℕ} {n j q : ℕ} (known : QueryNumbers ns) (h : j < length ns) (is : q ≡ get_or a j 0)
    (p : Choosing w i ns a n j) where
  number : q ≡ get_or ns j 0
  number = is ∙ p.later j (omega arith)

  pub number_below : q < numbers
  number_below = rw number (known j h)

  one_more : select (waits w i) (take (j + 1) ns) ≡ select (waits w i) (take j ns) ++ select (waits w i) (q ∷ [])
  one_more = rw (add-one j, take-suc ns j 0 h, ← number) (select_append (waits w i) (take j ns) (q ∷ []))

  room : n < length a
  room = omega (arith, p.few, p.long)

  pub choosing_kept : i < length (keys w q) → Choosing w i ns (set a n q) (n + 1) (j + 1)
  unfolding select
  choosing_kept some = record {
    bound = omega arith;
    few = omega (arith, p.few);
    long = length-set a n q ∙ p.long;
    below =
        below_more (λ (k : ℕ). get_or (set a n q) k 0 < numbers) n (λ k m. rw (get_or-set_other a n k q 0 (omega arith)) (p.below k m))
        (rw (get_or-set_same a n q 0 room) number_below);
    later = λ k m. get_or-set_other a n k q 0 (omega (arith, p.few)) ∙ p.later k (omega arith);
    right =
        ap (λ (m : ℕ). take m (set a n q)) (add-one n)
        ∙ take-suc-set a n q room
        ∙ ap (λ (r : List ℕ). r ++ q ∷ []) p.right
        ∙ sym (one_more ∙ rw (lt-ltb i (length (keys w q)) some));
  }

  pub choosing_passed : length (keys w q) ≤ i → Choosing w i ns a n (j + 1)
  unfolding select
  choosing_passed none = record {
    bound = omega arith;
    few = omega (arith, p.few);
    long = p.long;
    below = p.below;
    later = λ k m. p.later k (omega arith);
    right = p.right ∙ sym (one_more ∙ rw (le-ltb i (length (keys w q)) none) (append-nil (select (waits w i) (take j ns))));
  }
