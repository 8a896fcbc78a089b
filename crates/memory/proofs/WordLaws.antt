-- Laws of words: a word is its four bytes, a word written is that word alone, and words decide the bytes. Assumes nothing.
use Prim.Native.Nat.{ℕ, zero, suc, ◌+◌, ◌*◌, ◌/◌, ◌%◌, ◌-◌, ◌≤◌, ◌<◌}
use native.Mathlib.Nat.{add-zero, div-add-mod, div-add-mod'}
use native.Mathlib.Numerals.{towards_suc}
use native.Mathlib.Omega.{arith}
use mathlib.Core.Path.{◌≡◌, refl, sym, ap, ◌∙◌}
use mathlib.Core.List.{List, [], ◌∷◌, ◌++◌}
use lib.ListN.{length, get_or, set, take, drop, length-set, length-take, length-drop}
use Rattle.memory.specs.Words.{fours, put_four, word, words, put_word, big_word, big_words, put_big}
use Rattle.memory.proofs.KeepsLaws.{same_part}

four : (i : ℕ) → 4 * suc i ≡ suc (suc (suc (suc (4 * i))))
four i = omega arith

-- ---- in either order

module _ (f : ℕ → ℕ → ℕ → ℕ → ℕ) where
  get_four : (s : List ℕ) (i : ℕ) → 4 * i + 4 ≤ length s
      → get_or (fours f s) i 0 ≡ f (get_or s (4 * i) 0) (get_or s (4 * i + 1) 0) (get_or s (4 * i + 2) 0) (get_or s (4 * i + 3) 0)
  unfolding fours
  get_four [] i h = absurd (omega arith)
  get_four (a ∷ []) i h = absurd (omega arith)
  get_four (a ∷ b ∷ []) i h = absurd (omega arith)
  get_four (a ∷ b ∷ c ∷ []) i h = absurd (omega arith)
  get_four (a ∷ b ∷ c ∷ d ∷ s) zero h = refl
  get_four (a ∷ b ∷ c ∷ d ∷ s) (suc i) h = rw four (simp towards_suc (simp towards_suc at (get_four s i (omega arith))))

  put_four_lem : (s : List ℕ) (i a b c d : ℕ) → 4 * i + 4 ≤ length s → fours f (put_four s i a b c d) ≡ set (fours f s) i (f a b c d)
  unfolding fours put_four
  put_four_lem [] i a b c d h = absurd (omega arith)
  put_four_lem (x ∷ []) i a b c d h = absurd (omega arith)
  put_four_lem (x ∷ y ∷ []) i a b c d h = absurd (omega arith)
  put_four_lem (x ∷ y ∷ z ∷ []) i a b c d h = absurd (omega arith)
  put_four_lem (x ∷ y ∷ z ∷ t ∷ s) zero a b c d h = refl
  put_four_lem (x ∷ y ∷ z ∷ t ∷ s) (suc i) a b c d h =
      rw four
      (simp towards_suc (ap (λ (l : List ℕ). f x y z t ∷ l) (simp towards_suc at (put_four_lem s i a b c d (omega arith)))))

  fours_length : (s : List ℕ) → length (fours f s) ≡ length s / 4
  unfolding fours
  fours_length [] = refl
  fours_length (a ∷ []) = refl
  fours_length (a ∷ b ∷ []) = refl
  fours_length (a ∷ b ∷ c ∷ []) = refl
  fours_length (a ∷ b ∷ c ∷ d ∷ s) = let ih = fours_length s in omega arith

  -- the words of bytes that end with a word, and of what follows
  fours_append : (s t : List ℕ) → length s % 4 ≡ 0 → fours f (s ++ t) ≡ fours f s ++ fours f t
  unfolding fours
  fours_append [] t h = refl
  fours_append (a ∷ []) t h = absurd (omega arith)
  fours_append (a ∷ b ∷ []) t h = absurd (omega arith)
  fours_append (a ∷ b ∷ c ∷ []) t h = absurd (omega arith)
  fours_append (a ∷ b ∷ c ∷ d ∷ s) t h = ap (λ (w : List ℕ). f a b c d ∷ w) (fours_append s t (omega arith))

-- four bytes written as one part are written one by one
pub paste_four : (s : List ℕ) (i n a b c d : ℕ) → n ≡ 4 → 4 * i + 4 ≤ length s
    → take (4 * i) s ++ (a ∷ b ∷ c ∷ d ∷ drop n (drop (4 * i) s)) ≡ put_four s i a b c d
unfolding put_four
paste_four [] i n a b c d e h = absurd (omega arith)
paste_four (x ∷ []) i n a b c d e h = absurd (omega arith)
paste_four (x ∷ y ∷ []) i n a b c d e h = absurd (omega arith)
paste_four (x ∷ y ∷ z ∷ []) i n a b c d e h = absurd (omega arith)
paste_four (x ∷ y ∷ z ∷ t ∷ s) zero n a b c d e h = rw e refl
paste_four (x ∷ y ∷ z ∷ t ∷ s) (suc i) n a b c d e h =
    rw four
    (simp towards_suc (ap (λ (l : List ℕ). x ∷ y ∷ z ∷ t ∷ l) (simp towards_suc at (paste_four s i n a b c d e (omega arith)))))

four_length : (s : List ℕ) (i a b c d : ℕ) → length (put_four s i a b c d) ≡ length s
unfolding put_four
four_length s i a b c d = simp length-set

digits : (v x y z b c d : ℕ) → x * 256 + d ≡ v → y * 256 + c ≡ x → z * 256 + b ≡ y → big_word z b c d ≡ v
digits v x y z b c d p q r = omega arith

-- a number of 32 bits is the word of its four bytes
big_of : (v : ℕ) → v < 4294967296 → big_word (v / 16777216 % 256) (v / 65536 % 256) (v / 256 % 256) (v % 256) ≡ v
big_of v h =
    let p : v / 256 / 256 ≡ v / 65536 = omega arith in
    let q : v / 65536 / 256 ≡ v / 16777216 = omega arith in
    let top : v / 16777216 % 256 ≡ v / 16777216 = omega arith in
    rw top
    (digits v (v / 256) (v / 65536) (v / 16777216) _ _ _ (div-add-mod' v 256) (rw (← p) (div-add-mod' (v / 256) 256))
    (rw (← q) (div-add-mod' (v / 65536) 256)))

reversed : (a b c d : ℕ) → word d c b a ≡ big_word a b c d
reversed a b c d = omega arith

-- ---- state memory

pub get_word : (s : List ℕ) (i : ℕ) → 4 * i + 4 ≤ length s
    → get_or (words s) i 0 ≡ word (get_or s (4 * i) 0) (get_or s (4 * i + 1) 0) (get_or s (4 * i + 2) 0) (get_or s (4 * i + 3) 0)
unfolding words
get_word s i h = get_four word s i h

-- a word written is that word alone
pub put_word_lem : (s : List ℕ) (i v : ℕ) → 4 * i + 4 ≤ length s → v < 4294967296 → words (put_word s i v) ≡ set (words s) i v
unfolding words put_word
put_word_lem s i v h k = put_four_lem word s i _ _ _ _ h ∙ ap (set (fours word s) i) (reversed _ _ _ _ ∙ big_of v k)

pub words_length : (s : List ℕ) → length (words s) ≡ length s / 4
unfolding words
words_length s = fours_length word s

pub put_length : (s : List ℕ) (i v : ℕ) → length (put_word s i v) ≡ length s
unfolding put_word
put_length s i v = four_length s i _ _ _ _

-- ---- written for a host

pub get_big : (s : List ℕ) (i : ℕ) → 4 * i + 4 ≤ length s
    → get_or (big_words s) i 0 ≡ big_word (get_or s (4 * i) 0) (get_or s (4 * i + 1) 0) (get_or s (4 * i + 2) 0) (get_or s (4 * i + 3) 0)
unfolding big_words
get_big s i h = get_four big_word s i h

pub put_big_lem : (s : List ℕ) (i v : ℕ) → 4 * i + 4 ≤ length s → v < 4294967296 → big_words (put_big s i v) ≡ set (big_words s) i v
unfolding big_words put_big
put_big_lem s i v h k = put_four_lem big_word s i _ _ _ _ h ∙ ap (set (fours big_word s) i) (big_of v k)

pub big_words_length : (s : List ℕ) → length (big_words s) ≡ length s / 4
unfolding big_words
big_words_length s = fours_length big_word s

pub put_big_length : (s : List ℕ) (i v : ℕ) → length (put_big s i v) ≡ length s
unfolding put_big
put_big_length s i v = four_length s i _ _ _ _

pub big_append : (s t : List ℕ) → length s % 4 ≡ 0 → big_words (s ++ t) ≡ big_words s ++ big_words t
unfolding big_words
big_append s t h = fours_append big_word s t h

-- ---- words decide the bytes of state memory

-- equal words are equal bytes
word_bytes : {a b c d a' b' c' d' : ℕ} → a < 256 → b < 256 → c < 256 → a' < 256 → b' < 256 → c' < 256 → word a b c d ≡ word a' b' c' d'
    → (a ≡ a') × (b ≡ b') × (c ≡ c') × (d ≡ d')
word_bytes ha hb hc ha' hb' hc' e = (omega arith, omega arith, omega arith, omega arith)

module _ (s t : List ℕ) (bs : (i : ℕ) → get_or s i 0 < 256) (bt : (i : ℕ) → get_or t i 0 < 256) where
  same_byte : (j : ℕ) → 4 * (j / 4) + 4 ≤ length s → 4 * (j / 4) + 4 ≤ length t → get_or (words s) (j / 4) 0 ≡ get_or (words t) (j / 4) 0
      → get_or s j 0 ≡ get_or t j 0
  same_byte j hs ht e = rw (div-add-mod j 4) at (go (j % 4) (omega arith))
    where
      i : ℕ
      i = j / 4

      all : (get_or s (4 * i) 0 ≡ get_or t (4 * i) 0) × (get_or s (4 * i + 1) 0 ≡ get_or t (4 * i + 1) 0) × (get_or s (4 * i + 2) 0 ≡ get_or t (4 * i + 2) 0)
          × (get_or s (4 * i + 3) 0 ≡ get_or t (4 * i + 3) 0)
      all = word_bytes (bs _) (bs _) (bs _) (bt _) (bt _) (bt _) (sym (get_word s i hs) ∙ e ∙ get_word t i ht)

      go : (r : ℕ) → r < 4 → get_or s (4 * i + r) 0 ≡ get_or t (4 * i + r) 0
      go zero h = rw add-zero all.0
      go (suc zero) h = all.1
      go (suc (suc zero)) h = all.2
      go (suc (suc (suc zero))) h = all.3
      go (suc (suc (suc (suc r)))) h = absurd (omega arith)

  pub same_bytes : (a e : ℕ) → 4 * e ≤ length s → 4 * e ≤ length t → ((i : ℕ) → a ≤ i → i < e → get_or (words s) i 0 ≡ get_or (words t) i 0)
      → take (4 * (e - a)) (drop (4 * a) s) ≡ take (4 * (e - a)) (drop (4 * a) t)
  same_bytes a e hs ht w =
      same_part s t (4 * a) (4 * (e - a)) (simp (length-take, length-drop) (omega arith))
      (λ j l h. same_byte j (omega arith) (omega arith) (w (j / 4) (omega arith) (omega arith)))
