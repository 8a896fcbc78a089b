-- Laws of bits laid over bytes, one field after the other, and of the bytes that they make. Assumes nothing.
use mathlib.Core.Path.{◌≡◌, refl, sym, ap, ap₂, ◌∙◌}
use Prim.Native.Nat.{ℕ, zero, suc, ◌+◌, ◌*◌, ◌≤◌}
use native.Mathlib.Nat.{add-zero, add_assoc, not-suc-le-zero, le_of_suc-le-suc, suc_inj, le_of_eq}
use native.Mathlib.Omega.{arith}
use mathlib.Core.Bool.{Bool}
use mathlib.Core.List.{List, [], ◌∷◌, ◌++◌, append_assoc, append-nil}
use lib.ListN.{length, take, drop, length-append, length-drop, take-append-drop}
use lib.Seq.{take_at, drop_at, take-append-le, drop-append-le, length-take-le, drop-drop}
use Rattle.wire.specs.Bits.{bits, num, unpack, pack, Bytes}
use Rattle.wire.specs.Field.{placed, total, spell}
use Rattle.wire.proofs.BitLaws.{length_bits, length_unpack, num_of, pack_unpack}
use Rattle.frame.specs.Write.{laid}

pub laid_none : (s : List ℕ) (at : ℕ) → unpack s ≡ laid s at []
unfolding laid
laid_none s at = sym (rw (append-nil (take at (unpack s)), add-zero at) (take-append-drop at (unpack s)))

-- a field is laid
pub laid_field : (s : List ℕ) (at w v : ℕ) → placed s at w v ≡ laid s at (bits w v)
unfolding laid placed
laid_field s at w v = rw (length_bits w v)

-- bits laid after bits
pub laid_then : (s t u : List ℕ) (at n : ℕ) (bs cs : List Bool) → at ≤ 8 * length s → n ≡ at + length bs
    → unpack t ≡ laid s at bs → unpack u ≡ laid t n cs → unpack u ≡ laid s at (bs ++ cs)
unfolding laid
laid_then s t u at n bs cs h en et eu =
    let front : length (take at (unpack s) ++ bs) ≡ n =
    length-append (take at (unpack s)) bs ∙ ap (λ (k : ℕ). k + length bs) (length-take-le at (unpack s) (rw (length_unpack s) h)) ∙ sym en in
    let hd : take n (unpack t) ≡ take at (unpack s) ++ bs = ap (take n) et ∙ take_at (take at (unpack s) ++ bs) (drop (at + length bs) (unpack s)) n front in
    let tl : drop n (unpack t) ≡ drop n (unpack s) =
    ap (drop n) et ∙ drop_at (take at (unpack s) ++ bs) (drop (at + length bs) (unpack s)) n front ∙ ap (λ (k : ℕ). drop k (unpack s)) (sym en) in
    let same : n + length cs ≡ at + length (bs ++ cs) = rw (length-append bs cs, en) (add_assoc at (length bs) (length cs)) in
    let end : drop (n + length cs) (unpack t) ≡ drop (at + length (bs ++ cs)) (unpack s) =
    sym (drop-drop (length cs) n (unpack t)) ∙ ap (drop (length cs)) tl ∙ drop-drop (length cs) n (unpack s)
    ∙ ap (λ (k : ℕ). drop k (unpack s)) same in
    eu ∙ ap₂ (λ (x y : List Bool). x ++ cs ++ y) hd end
    ∙ ap (λ (x : List Bool). x ++ drop (at + length (bs ++ cs)) (unpack s)) (append_assoc (take at (unpack s)) bs cs)

-- ---- a layout

pub spell_length : (ws vs : List ℕ) → length ws ≡ length vs → length (spell ws vs) ≡ total ws
unfolding spell total
spell_length [] vs e = refl
spell_length (w ∷ ws) [] e = absurd (not-suc-le-zero (le_of_eq e))
spell_length (w ∷ ws) (v ∷ vs) e =
    length-append (bits w v) (spell ws vs) ∙ ap₂ (λ (x y : ℕ). x + y) (length_bits w v) (spell_length ws vs (suc_inj e))

-- ---- the bytes

-- output that starts with the bits of n bytes starts with those bytes
pub pack_over : (n : ℕ) (s t : List ℕ) (bs : List Bool) → length t ≡ length s → n ≤ length s → length bs ≡ 8 * n
    → Bytes s → Bytes t → unpack t ≡ bs ++ drop (8 * n) (unpack s) → t ≡ pack n bs ++ drop n s
unfolding pack unpack
pack_over zero s t [] l h k bs bt e = sym (pack_unpack t bt) ∙ ap₂ pack l e ∙ pack_unpack s bs
pack_over zero s t (x ∷ xs) l h k bs bt e = absurd (not-suc-le-zero (le_of_eq k))
pack_over (suc n) [] t bs l h k hs ht e = absurd (not-suc-le-zero h)
pack_over (suc n) (y ∷ s) [] bs l h k hs ht e = absurd (not-suc-le-zero (le_of_eq (sym l)))
pack_over (suc n) (y ∷ s) (x ∷ t) bs l h k hs ht e =
    let rest : List Bool = drop (8 * suc n) (bits 8 y ++ unpack s) in
    let x-is : bits 8 x ≡ take 8 bs =
    sym (take_at (bits 8 x) (unpack t) 8 (length_bits 8 x)) ∙ ap (take 8) e ∙ take-append-le 8 bs rest (omega arith) in
    let j-is : 8 * suc n ≡ 8 + 8 * n = omega arith in
    let past : rest ≡ drop (8 * n) (unpack s) =
    ap (λ (j : ℕ). drop j (bits 8 y ++ unpack s)) j-is ∙ sym (drop-drop (8 * n) 8 (bits 8 y ++ unpack s))
    ∙ ap (drop (8 * n)) (drop_at (bits 8 y) (unpack s) 8 (length_bits 8 y)) in
    let t-is : unpack t ≡ drop 8 bs ++ drop (8 * n) (unpack s) =
    sym (drop_at (bits 8 x) (unpack t) 8 (length_bits 8 x)) ∙ ap (drop 8) e ∙ drop-append-le 8 bs rest (omega arith)
    ∙ ap (λ (r : List Bool). drop 8 bs ++ r) past in
    ap₂ {C = List ℕ} (λ a b. a ∷ b) (sym (num_of 8 x (ht 0)) ∙ ap num x-is)
    (pack_over n s t (drop 8 bs) (suc_inj l) (le_of_suc-le-suc h) (length-drop 8 bs ∙ omega arith) (λ i. hs (suc i)) (λ i. ht (suc i)) t-is)
