-- An array and the memory, copied word by word at any width: what holds at first, after each turn, and at the end. Assumes nothing.
use Prim.Native.Nat.{ℕ, ◌+◌, ◌*◌, ◌/◌, ◌≤◌, ◌<◌}
use native.Mathlib.Numerals.{add-one}
use native.Mathlib.Omega.{arith}
use mathlib.Core.Path.{◌≡◌, refl, ap, ◌∙◌}
use mathlib.Core.List.{List}
use mir.Syntax.{w32}
use mir.Val.{Fits}
use lib.ListN.{length, get_or, take, drop, set, length-set, length-drop}
use lib.Seq.{take_all, take-suc, take-suc-set, drop-set-add, get_or-drop}
use Rattle.memory.specs.Words.{words, put_word, big_words, put_big}
use Rattle.memory.specs.Keeps.{Stored}
use Rattle.memory.proofs.WordLaws.{words_length, put_word_lem, put_length, big_words_length, put_big_lem, put_big_length}
use Rattle.memory.proofs.KeepsLaws.{keeps_refl, keeps_wider, keeps_more}

-- one element more of y is copied to x
pub copy_more : (x y : List ℕ) (n : ℕ) → n < length x → n < length y → take n x ≡ take n y → take (n + 1) (set x n (get_or y n 0)) ≡ take (n + 1) y
copy_more x y n hx hy e = rw (add-one, take-suc-set x n (get_or y n 0) hx, take-suc y n 0 hy, e) refl

-- n of the m words of s from index i on stand in a
pub record Loading (m i n : ℕ) (s a : List ℕ) : Type 0 where
  pub bound : n ≤ m
  pub wide : length a ≡ m
  pub same : take n a ≡ take n (drop i (words s))

pub loading_more : {m i n v : ℕ} {s a : List ℕ} → 4 * (i + m) ≤ length s → n < m → v ≡ get_or (words s) (i + n) 0 → Loading m i n s a
    → Loading m i (n + 1) s (set a n v)
loading_more {m} {i} {n} {v} {s} {a} h k e p = record {
  bound = omega arith;
  wide = length-set a n v ∙ p.wide;
  same =
      let w = words_length s in
      rw (e, ← get_or-drop i (words s) n 0) (copy_more a (drop i (words s)) n (omega arith) (simp length-drop (omega arith)) p.same);
}

-- n of the m words a stand in s from index i on, and s is s₀ elsewhere; W says what the words of bytes are
pub record Storing (W : List ℕ → List ℕ) (m i n : ℕ) (a s₀ s : List ℕ) : Type 0 where
  pub bound : n ≤ m
  pub wide : length a ≡ m
  pub long : length s ≡ length s₀
  pub stored : Stored i n (take n a) (W s₀) (W s)

stored_more : (a : List ℕ) {i n : ℕ} {s t : List ℕ} → i + n < length t → n < length a → Stored i n (take n a) s t
    → Stored i (n + 1) (take (n + 1) a) s (set t (i + n) (get_or a n 0))
stored_more a {i} {n} {s} {t} h k p = record {
  keeps = keeps_more (keeps_wider (omega arith) (omega arith) p.keeps) (i + n) (get_or a n 0) (omega arith) (omega arith);
  reads = rw drop-set-add (copy_more (drop i t) a n (simp length-drop (omega arith)) k p.reads);
}

module _ {W : List ℕ → List ℕ} {m i n : ℕ} where
  pub storing_none : {a s : List ℕ} → n ≡ 0 → length a ≡ m → Storing W m i n a s s
  storing_none {a} {s} z l =
      rw z (record { bound = omega arith; wide = l; long = refl; stored = record { keeps = keeps_refl i (i + 0) (W s); reads = refl } })

  storing_more : {a s₀ s s' : List ℕ} → 4 * (i + m) ≤ length s₀ → n < m → length (W s) ≡ length s / 4 → length s' ≡ length s
      → W s' ≡ set (W s) (i + n) (get_or a n 0) → Storing W m i n a s₀ s → Storing W m i (n + 1) a s₀ s'
  storing_more {a} h k w l e p = record {
    bound = omega arith;
    wide = p.wide;
    long = l ∙ p.long;
    stored = rw e (stored_more a (omega (arith, p.long)) (omega (arith, p.wide)) p.stored);
  }

  pub storing_all : {a s₀ s : List ℕ} → m ≤ n → Storing W m i n a s₀ s → Stored i m a (W s₀) (W s)
  storing_all {a} h p = let e : n ≡ m = omega arith in rw (take_all n a (omega arith), e) at p.stored

pub storing_word : {m i n : ℕ} {a s₀ s s' : List ℕ} → 4 * (i + m) ≤ length s₀ → n < m → Fits w32 (get_or a n 0)
    → s' ≡ put_word s (i + n) (get_or a n 0) → Storing words m i n a s₀ s → Storing words m i (n + 1) a s₀ s'
storing_word {i = i} {n = n} {a = a} {s = s} h k b e p =
    storing_more h k (words_length s) (ap length e ∙ put_length s (i + n) (get_or a n 0))
    (ap words e ∙ put_word_lem s (i + n) (get_or a n 0) (omega (arith, p.long)) b.fits) p

pub storing_big : {m i n : ℕ} {a s₀ s s' : List ℕ} → 4 * (i + m) ≤ length s₀ → n < m → Fits w32 (get_or a n 0)
    → s' ≡ put_big s (i + n) (get_or a n 0) → Storing big_words m i n a s₀ s → Storing big_words m i (n + 1) a s₀ s'
storing_big {i = i} {n = n} {a = a} {s = s} h k b e p =
    storing_more h k (big_words_length s) (ap length e ∙ put_big_length s (i + n) (get_or a n 0))
    (ap big_words e ∙ put_big_lem s (i + n) (get_or a n 0) (omega (arith, p.long)) b.fits) p
