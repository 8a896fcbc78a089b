-- A line's nine bytes, and lines one after the other. Assumes nothing.
use Prim.Native.Nat.{ℕ, suc, ◌+◌, ◌*◌, ◌-◌, ◌≤◌}
use native.Mathlib.Omega.{arith}
use mathlib.Core.Path.{◌≡◌, refl, sym, ap, ap₂, ◌∙◌}
use mathlib.Core.List.{List, [], ◌∷◌, ◌++◌, append_assoc, append-nil}
use lib.ListN.{length, take, drop, set, length-append, length-take, length-drop, take-append-drop, drop_of_length-le}
use lib.Seq.{sets-eq, take_at, drop_at, drop-drop, drop-append-le}
use borrow.Rule.Slice.PartMut.{put_mid}
use Rattle.paper.specs.Screen.{ScreenLine, screen_line_length}
use Rattle.memory.specs.Words.{put_four, big_bytes, put_big}
use Rattle.screen.specs.Lines.{screen_line_bytes, screen_bytes, lines_into}

-- an entry is all of eight bytes
module _ (o : List ℕ) (a b : ℕ) (l : length o ≡ 8) where
  pub entry_bytes : {o₁ o₂ : List ℕ} → o₁ ≡ put_big o 0 a → o₂ ≡ put_big o₁ 1 b → o₂ ≡ big_bytes (a ∷ b ∷ [])
  unfolding put_four put_big big_bytes
  entry_bytes e₁ e₂ =
      let h : length o ≤ 8 = omega arith in
      rw (e₂, e₁) (sets-eq (big_bytes (a ∷ b ∷ [])) o 0 (omega arith) ∙ rw (drop_of_length-le o h))

-- and a number before it all of nine
pub line_bytes_lem : (o : List ℕ) (n : ℕ) {b p : List ℕ} → length o ≡ screen_line_length → p ≡ b → put_mid 1 (length (set o 0 n) - 1) (set o 0 n) p ≡ n ∷ b
line_bytes_lem [] n l e = absurd (omega arith)
line_bytes_lem (x ∷ o) n {b} l e =
    let h : length o ≤ suc (length o) - 1 = omega arith in
    rw (e, drop_of_length-le o h) (ap (λ (r : List ℕ). n ∷ r) (append-nil b))

pub bytes_length : (ps : List ScreenLine) → length (screen_bytes ps) ≡ screen_line_length * length ps
unfolding screen_bytes big_bytes
bytes_length [] = refl
bytes_length (p ∷ ps) = let ih = bytes_length ps in omega arith

bytes_append : (ps xs : List ScreenLine) → screen_bytes (ps ++ xs) ≡ screen_bytes ps ++ screen_bytes xs
unfolding screen_bytes
bytes_append [] xs = refl
bytes_append (p ∷ ps) xs =
    ap (λ (s : List ℕ). screen_line_bytes p ++ s) (bytes_append ps xs)
    ∙ sym (append_assoc (screen_line_bytes p) (screen_bytes ps) (screen_bytes xs))

pub lines_length : (ps : List ScreenLine) (out : List ℕ) → screen_line_length * length ps ≤ length out → length (lines_into ps out) ≡ length out
lines_length ps out h = simp (length-append, length-drop) (omega (arith, bytes_length ps))

-- more lines, put into a part after those that are there
module _ (ps xs : List ScreenLine) (out₀ : List ℕ) {out : List ℕ} (at k : ℕ) (e : out ≡ lines_into ps out₀) (start : at ≡ screen_line_length * length ps)
    (fits : screen_line_length * length xs ≤ k) (within : at + k ≤ length out) where
  -- what the part leaves alone, with what is after it
  part_rest : drop (screen_line_length * length xs) (take k (drop at out)) ++ drop k (drop at out) ≡ drop (screen_line_length * length xs) (drop at out)
  part_rest =
      sym (drop-append-le (screen_line_length * length xs) (take k (drop at out)) (drop k (drop at out)) (simp (length-take, length-drop) (omega arith)))
      ∙ ap (drop (screen_line_length * length xs)) (take-append-drop k (drop at out))

  front : take at out ≡ screen_bytes ps
  front = rw (e, start) (take_at (screen_bytes ps) (drop (screen_line_length * length ps) out₀) (screen_line_length * length ps) (bytes_length ps))

  back : drop (screen_line_length * length xs) (drop at out) ≡ drop (screen_line_length * length (ps ++ xs)) out₀
  back =
      let all : screen_line_length * length ps + screen_line_length * length xs ≡ screen_line_length * length (ps ++ xs) = simp length-append (omega arith) in
      ap (drop (screen_line_length * length xs))
      (rw (e, start) (drop_at (screen_bytes ps) (drop (screen_line_length * length ps) out₀) (screen_line_length * length ps) (bytes_length ps)))
      ∙ drop-drop (screen_line_length * length xs) (screen_line_length * length ps) out₀
      ∙ ap (λ (n : ℕ). drop n out₀) all

  pub lines_put : {part : List ℕ} → part ≡ lines_into xs (take k (drop at out)) → put_mid at k out part ≡ lines_into (ps ++ xs) out₀
  lines_put part =
      ap₂ {C = List ℕ} (λ a b. a ++ b) front
      (ap (λ (s : List ℕ). s ++ drop k (drop at out)) part
      ∙ append_assoc (screen_bytes xs) _ _
      ∙ ap (λ (s : List ℕ). screen_bytes xs ++ s) (part_rest ∙ back))
      ∙ sym (append_assoc (screen_bytes ps) (screen_bytes xs) _)
      ∙ ap (λ (s : List ℕ). s ++ drop (screen_line_length * length (ps ++ xs)) out₀) (sym (bytes_append ps xs))
