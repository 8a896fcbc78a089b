-- Laws of what a writer leaves alone: one for each way of writing and one for each way of reading. Assumes nothing.
use Prim.Native.Nat.{ℕ, suc, ◌+◌, ◌*◌, ◌≤◌, ◌<◌}
use native.Mathlib.Omega.{arith}
use mathlib.Core.Path.{◌≡◌, refl, ◌∙◌}
use mathlib.Core.Logic.{◌⊎◌, ⊎_elim}
use mathlib.Core.List.{List}
use lib.ListN.{length, get_or, set, take, drop, length-set, length-take, length-drop}
use lib.Seq.{get_or-set_other, get_or-take, get_or-drop, ext_get_or}
use Rattle.memory.specs.Keeps.{Keeps}
use Rattle.memory.specs.Words.{put_four, put_big}

pub keeps_refl : (a e : ℕ) (s : List ℕ) → Keeps a e s s
keeps_refl a e s = record { long = refl; below = λ i h. refl; above = λ i h. refl }

pub keeps_trans : {a e : ℕ} {s t u : List ℕ} → Keeps a e s t → Keeps a e t u → Keeps a e s u
keeps_trans p q = record { long = q.long ∙ p.long; below = λ i h. q.below i h ∙ p.below i h; above = λ i h. q.above i h ∙ p.above i h }

pub keeps_wider : {a e a' e' : ℕ} {s t : List ℕ} → a' ≤ a → e ≤ e' → Keeps a e s t → Keeps a' e' s t
keeps_wider ha he p = record { long = p.long; below = λ i h. p.below i (omega arith); above = λ i h. p.above i (omega arith) }

pub keeps_set : (s : List ℕ) (i v : ℕ) → Keeps i (suc i) s (set s i v)
keeps_set s i v = record {
  long = length-set s i v;
  below = λ j h. get_or-set_other s i j v 0 (omega arith);
  above = λ j h. get_or-set_other s i j v 0 (omega arith);
}

-- one element more is written
pub keeps_more : {a e : ℕ} {s t : List ℕ} → Keeps a e s t → (i v : ℕ) → a ≤ i → i < e → Keeps a e s (set t i v)
keeps_more {t = t} p i v l h = keeps_trans p (keeps_wider l h (keeps_set t i v))

four_keeps : (s : List ℕ) (i a b c d : ℕ) → Keeps (4 * i) (4 * i + 4) s (put_four s i a b c d)
unfolding put_four
four_keeps s i a b c d =
    keeps_more (keeps_more (keeps_more (keeps_more (keeps_refl (4 * i) (4 * i + 4) s) (4 * i) a (omega arith) (omega arith)) (4 * i + 1) b
    (omega arith) (omega arith))
    (4 * i + 2) c (omega arith) (omega arith)) (4 * i + 3) d (omega arith) (omega arith)

pub big_keeps : (s : List ℕ) (i v : ℕ) → Keeps (4 * i) (4 * i + 4) s (put_big s i v)
unfolding put_big
big_keeps s i v = four_keeps s i _ _ _ _

-- one element outside of what was written
pub keeps_at : {a e : ℕ} {s t : List ℕ} → Keeps a e s t → (i : ℕ) → (i < a) ⊎ (e ≤ i) → get_or t i 0 ≡ get_or s i 0
keeps_at p i = ⊎_elim (p.below i) (p.above i)

-- a part is its elements
pub same_part : (s t : List ℕ) (i n : ℕ) → length (take n (drop i s)) ≡ length (take n (drop i t)) → ((j : ℕ) → i ≤ j → j < i + n → get_or s j 0 ≡ get_or t j 0)
    → take n (drop i s) ≡ take n (drop i t)
same_part s t i n long same = ext_get_or 0 (take n (drop i s)) (take n (drop i t)) long at_j
  where
    at_j : (j : ℕ) → j < length (take n (drop i s)) → get_or (take n (drop i s)) j 0 ≡ get_or (take n (drop i t)) j 0
    at_j j h =
        let k : j < n = let l = length-take n (drop i s) in omega arith in
        simp (get_or-take, get_or-drop) (same (i + j) (omega arith) (omega arith))

-- a part outside of what was written
pub keeps_part : {a e : ℕ} {s t : List ℕ} → Keeps a e s t → (i n : ℕ) → (i + n ≤ a) ⊎ (e ≤ i) → take n (drop i t) ≡ take n (drop i s)
keeps_part {s = s} {t = t} p i n d =
    same_part t s i n (simp (length-take, length-drop) (omega arith))
    (λ j l h. ⊎_elim (λ b. p.below j (omega arith)) (λ b. p.above j (omega arith)) d)
