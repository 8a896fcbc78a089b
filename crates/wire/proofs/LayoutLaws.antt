-- Laws of layouts: the fields of a list of bytes spell it, and what is spelled is read back. Assumes nothing.
use mathlib.Core.Path.{◌≡◌, refl, sym, ap, ap₂, ◌∙◌}
use Prim.Native.Nat.{ℕ, ◌+◌, ◌*◌, ◌≤◌}
use native.Mathlib.Nat.{add-zero, zero-add, add_assoc, le_of_eq, not-suc-le-zero, suc_inj}
use native.Mathlib.Omega.{arith}
use mathlib.Core.Bool.{Bool}
use mathlib.Core.List.{List, [], ◌∷◌, ◌++◌, append_assoc}
use lib.ListN.{length, take, drop, length-append, length-drop}
use lib.Seq.{take_at, drop_at, length-take-le, take_all, take-add, drop-drop}
use Rattle.wire.specs.Bits.{bits, num, unpack, pack, Bytes}
use Rattle.wire.specs.Field.{field, total, spell, scan, Fit}
use Rattle.wire.proofs.BitLaws.{length_bits, num_of, bits_num, length_unpack, pack_unpack, unpack_pack}

pub length_spell : (ws vs : List ℕ) → Fit ws vs → length (spell ws vs) ≡ total ws
unfolding spell total
length_spell [] [] h = refl
length_spell [] (v ∷ vs) h = refl
length_spell (w ∷ ws) [] h = absurd h
length_spell (w ∷ ws) (v ∷ vs) h = length-append (bits w v) (spell ws vs) ∙ ap₂ (λ (x y : ℕ). x + y) (length_bits w v) (length_spell ws vs h.1)

scan_spell_from : (s ws vs : List ℕ) (at : ℕ) → Fit ws vs → drop at (unpack s) ≡ spell ws vs → scan s at ws ≡ vs
unfolding scan spell field
scan_spell_from s [] [] at h e = refl
scan_spell_from s [] (v ∷ vs) at h e = absurd h
scan_spell_from s (w ∷ ws) [] at h e = absurd h
scan_spell_from s (w ∷ ws) (v ∷ vs) at h e =
    let hd : num (take w (drop at (unpack s))) ≡ v = rw (e, take_at (bits w v) (spell ws vs) w (length_bits w v)) (num_of w v h.0) in
    let tl : drop (at + w) (unpack s) ≡ spell ws vs = sym (drop-drop w at (unpack s)) ∙ ap (drop w) e ∙ drop_at (bits w v) (spell ws vs) w (length_bits w v) in
    ap₂ {C = List ℕ} (λ x y. x ∷ y) hd (scan_spell_from s ws vs (at + w) h.1 tl)

-- the fields of what was written are the values
pub scan_spell : (n : ℕ) (ws vs : List ℕ) → Fit ws vs → total ws ≡ 8 * n → scan (pack n (spell ws vs)) 0 ws ≡ vs
scan_spell n ws vs h e = scan_spell_from (pack n (spell ws vs)) ws vs 0 h (unpack_pack n (spell ws vs) (length_spell ws vs h ∙ e))

-- what was scanned spells the bits that it was scanned from
pub spell_scan : (s ws : List ℕ) (at : ℕ) → at + total ws ≤ 8 * length s → spell ws (scan s at ws) ≡ take (total ws) (drop at (unpack s))
unfolding scan spell total field
spell_scan s [] at h = refl
spell_scan s (w ∷ ws) at h =
    let l : List Bool = drop at (unpack s) in
    let n : length (take w l) ≡ w = length-take-le w l (rw (length-drop at (unpack s), length_unpack s) (omega arith)) in
    let hd : bits w (num (take w l)) ≡ take w l = ap (λ (k : ℕ). bits k (num (take w l))) (sym n) ∙ bits_num (take w l) in
    let tl : spell ws (scan s (at + w) ws) ≡ take (total ws) (drop w l) =
    spell_scan s ws (at + w) (omega arith) ∙ ap (take (total ws)) (sym (drop-drop w at (unpack s))) in
    ap₂ (λ (x y : List Bool). x ++ y) hd tl ∙ sym (take-add w (total ws) l)

-- a list of bytes that a layout fills is what its fields spell
pub pack_scan : (s ws : List ℕ) → Bytes s → total ws ≡ 8 * length s → pack (length s) (spell ws (scan s 0 ws)) ≡ s
pack_scan s ws h e =
    ap (pack (length s)) (spell_scan s ws 0 (omega arith) ∙ take_all (total ws) (unpack s) (rw (length_unpack s) (omega arith)))
    ∙ pack_unpack s h

-- ---- layouts put together

pub total_append : (a b : List ℕ) → total (a ++ b) ≡ total a + total b
unfolding total
total_append [] b = sym (zero-add (total b))
total_append (w ∷ a) b = rw (total_append a b, add_assoc w (total a) (total b))

pub scan_append : (s : List ℕ) (at : ℕ) (a b : List ℕ) → scan s at (a ++ b) ≡ scan s at a ++ scan s (at + total a) b
unfolding scan total
scan_append s at [] b = ap (λ (k : ℕ). scan s k b) (sym (add-zero at))
scan_append s at (w ∷ a) b = rw (scan_append s (at + w) a b, add_assoc at w (total a))

pub fit_append : (a b vs us : List ℕ) → Fit a vs → Fit b us → Fit (a ++ b) (vs ++ us)
fit_append [] b [] us h k = k
fit_append [] b (v ∷ vs) us h k = absurd h
fit_append (w ∷ a) b [] us h k = absurd h
fit_append (w ∷ a) b (v ∷ vs) us h k = (h.0, fit_append a b vs us h.1 k)

-- the values that a scan of two layouts finds, parted where the first layout ends
pub scan_parts : (s : List ℕ) (at : ℕ) (a b vs us : List ℕ) → Fit a vs → scan s at (a ++ b) ≡ vs ++ us
    → (scan s at a ≡ vs) × (scan s (at + total a) b ≡ us)
unfolding scan total
scan_parts s at [] b [] us h e = (refl, rw (add-zero at) e)
scan_parts s at [] b (v ∷ vs) us h e = absurd h
scan_parts s at (w ∷ a) b [] us h e = absurd h
scan_parts s at (w ∷ a) b (v ∷ vs) us h e =
    let p = scan_parts s (at + w) a b vs us h.1 (cc) in
    let q : scan s (at + w) a ≡ vs = p.0 in
    (cc, rw (← add_assoc at w (total a)) p.1)

pub spell_append : (a b vs us : List ℕ) → length a ≡ length vs → spell (a ++ b) (vs ++ us) ≡ spell a vs ++ spell b us
unfolding spell
spell_append [] b [] us e = refl
spell_append [] b (v ∷ vs) us e = absurd (not-suc-le-zero (le_of_eq (sym e)))
spell_append (w ∷ a) b [] us e = absurd (not-suc-le-zero (le_of_eq e))
spell_append (w ∷ a) b (v ∷ vs) us e = rw (spell_append a b vs us (suc_inj e)) (sym (append_assoc (bits w v) (spell a vs) (spell b us)))
