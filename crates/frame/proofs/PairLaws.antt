-- Laws of pairs: as they are judged one by one, and as they stand in an array. Assumes nothing.
use Prim.Native.Nat.{ℕ, zero, suc, ◌+◌, ◌-◌, ◌*◌, ◌/◌, ◌%◌, ◌^◌, ◌≤◌, ◌<◌}
use native.Mathlib.Nat.{add-zero, suc-mul, zero-mul, not-suc-le-zero, le_of_suc-le-suc, mul-le-mul_right, lt_of_lt_of_le}
use native.Mathlib.Numerals.{add-one}
use native.Mathlib.Omega.{arith}
use mathlib.Core.Path.{◌≡◌, refl, sym, ap, ◌∙◌}
use mathlib.Core.Bool.{Bool, true, false, cond, ◌&&◌}
use mathlib.Core.List.{List, [], ◌∷◌, ◌++◌, map, map-append}
use lib.ListN.{length, take, drop, get_or, set, length-map, length-drop}
use lib.Seq.{drop-cons, length-take-le, take-add, drop-drop}
use lib.Pow.{high, low, pow_mono}
use lib.Dec.{eqb, leb, ltb, eqb-suc-zero}
use Rattle.wire.specs.Bits.{num, unpack}
use Rattle.wire.specs.Field.{field}
use Rattle.wire.proofs.BitLaws.{num_append, length_unpack}
use Rattle.wire.proofs.FieldLaws.{field_lt}
use Rattle.paper.specs.Frame.{Pair, positive, rises, pairs_at, term_width, count_width, most_pairs}
use Rattle.paper.proofs.FrameLaws.{length_pairs}
use Rattle.paper.specs.Write.{side_by_side, all_within}
use Rattle.frame.specs.Read.{padded, pairs_number, judge_next}
use Rattle.frame.specs.Write.{sound_pair}

-- ---- judged one by one, as the reader and the writer do

abbrev pub all : (Pair → Bool) → List Pair → Bool
all sound [] = true
all sound (p ∷ ps) = sound p && all sound ps

-- the number of pairs, after those before them gave `number` and end below `least`
abbrev pub judged_from : (Pair → Bool) → ℕ → ℕ → List Pair → ℕ
judged_from sound number least [] = number
judged_from sound number least (p ∷ ps) = judged_from sound (judge_next number (sound p) least p.term) (suc p.term) ps

judged_from_lem : (sound : Pair → Bool) (number least : ℕ) (ps : List Pair)
    → judged_from sound number least ps ≡ cond (all sound ps) (cond (eqb number 0) (cond (rises least ps) 0 6) number) 5
unfolding judge_next rises
judged_from_lem sound zero least [] = refl
judged_from_lem sound (suc n) least [] = rw (eqb-suc-zero n)
judged_from_lem sound number least (p ∷ ps) =
    judged_from_lem sound (judge_next number (sound p) least p.term) (suc p.term) ps
    ∙ go (sound p) (all sound ps) (leb least p.term) (rises (suc p.term) ps) number
  where
    go : (a q b c : Bool) (n : ℕ)
        → cond q (cond (eqb (cond a (cond (eqb n 0) (cond b 0 6) n) 5) 0) (cond c 0 6) (cond a (cond (eqb n 0) (cond b 0 6) n) 5)) 5
        ≡ cond (a && q) (cond (eqb n 0) (cond (b && c) 0 6) n) 5
    go false true b c n = refl
    go false false b c n = refl
    go true false b c n = refl
    go true true true c zero = refl
    go true true false c zero = refl
    go true true b c (suc n) = rw (eqb-suc-zero n, eqb-suc-zero n)

-- judging all of them one by one finds 5 anywhere before 6
pub judged_all : (sound : Pair → Bool) (ps : List Pair) → judged_from sound 0 0 ps ≡ pairs_number (all sound ps) ps
unfolding pairs_number
judged_all sound ps = judged_from_lem sound 0 0 ps

abbrev pub counted : Pair → Bool
counted p = ltb 0 p.amount

pub positive_all : (ps : List Pair) → all counted ps ≡ positive ps
unfolding positive
positive_all [] = refl
positive_all (p ∷ ps) = ap (λ (t : Bool). ltb 0 p.amount && t) (positive_all ps)

abbrev pub in_limits : ℕ → Pair → Bool
in_limits w p = sound_pair (2 ^ w) p.term p.amount

pub within_all : (w : ℕ) (ps : List Pair) → all (in_limits w) ps ≡ all_within w ps
unfolding all_within
within_all w [] = refl
within_all w (p ∷ ps) = ap (λ (t : Bool). in_limits w p && t) (within_all w ps)

-- ---- pairs read one after the other

-- two fields side by side, read as one
field_parts : (s : List ℕ) (at a b : ℕ) → at + (a + b) ≤ 8 * length s → field s at (a + b) ≡ field s at a * 2 ^ b + field s (at + a) b
unfolding field
field_parts s at a b h =
    let l : List Bool = drop at (unpack s) in
    let n : length (take b (drop a l)) ≡ b = length-take-le b (drop a l) (rw (length-drop a l, length-drop at (unpack s), length_unpack s) (omega arith)) in
    ap num (take-add a b l) ∙ num_append (take a l) (take b (drop a l)) ∙ rw (n, drop-drop a at (unpack s))

-- a pair's term and amount in its bits
pair_term : (s : List ℕ) (at w : ℕ) → at + (term_width + w) ≤ 8 * length s → field s at (term_width + w) / 2 ^ w ≡ field s at term_width
pair_term s at w h = rw (field_parts s at term_width w h) (high (field s at term_width) w (field_lt s (at + term_width) w))

pair_amount : (s : List ℕ) (at w : ℕ) → at + (term_width + w) ≤ 8 * length s → field s at (term_width + w) % 2 ^ w ≡ field s (at + term_width) w
pair_amount s at w h = rw (field_parts s at term_width w h) (low (field s at term_width) w (field_lt s (at + term_width) w))

-- the pair at bit `at`
abbrev pub pair_at : List ℕ → ℕ → ℕ → Pair
pair_at s at w = record { term = field s at term_width; amount = field s (at + term_width) w }

pub pairs_none : (s : List ℕ) (at w m : ℕ) → m ≡ 0 → pairs_at s at w m ≡ []
unfolding pairs_at
pairs_none s at w m h = rw h

-- the next of what is left
pairs_next : (s : List ℕ) (at w m i : ℕ) → i < m → pairs_at s at w (m - i) ≡ pair_at s at w ∷ pairs_at s (at + (term_width + w)) w (m - (i + 1))
unfolding pairs_at
pairs_next s at w m i h = let e : m - i ≡ suc (m - (i + 1)) = omega arith in rw e

-- one more at the end
pairs_more : (s : List ℕ) (at w i : ℕ) → pairs_at s at w (suc i) ≡ pairs_at s at w i ++ (pair_at s (at + i * (term_width + w)) w ∷ [])
unfolding pairs_at
pairs_more s at w zero = rw (zero-mul (term_width + w), add-zero at)
pairs_more s at w (suc i) =
    let e : at + (term_width + w) + i * (term_width + w) ≡ at + suc i * (term_width + w) = rw (suc-mul i (term_width + w)) (omega arith) in
    ap (λ (l : List Pair). pair_at s at w ∷ l) (pairs_more s (at + (term_width + w)) w i ∙ rw e)

-- ---- pairs in an array

-- one more number is one more place
pub padded_more : (n : ℕ) (xs : List ℕ) (x : ℕ) → length xs < n → padded n (xs ++ (x ∷ [])) ≡ set (padded n xs) (length xs) x
padded_more zero xs x h = absurd (not-suc-le-zero h)
padded_more (suc n) [] x h = refl
padded_more (suc n) (y ∷ xs) x h = ap (λ (l : List ℕ). y ∷ l) (padded_more n xs x (le_of_suc-le-suc h))

-- ---- a turn of a loop over pairs

-- the pair of a turn ends before the end of all
pub pair_room : (at m i c next : ℕ) → i < m → next ≡ at + i * c → next + c ≤ at + m * c
pair_room at m i c next h e = let k : suc i * c ≤ m * c = mul-le-mul_right c h in omega (arith, k, suc-mul i c)

-- the next pair follows it
pub pair_next : (at i c next : ℕ) → next ≡ at + i * c → next + c ≡ at + (i + 1) * c
pair_next at i c next e = rw (e, add-one i, suc-mul i c) (omega arith)

-- the term and the amount of a pair that is read as one number
pub record PairRead (s : List ℕ) (next w term amount : ℕ) : Type 0 where
  pub term_is : term ≡ field s next term_width
  pub amount_is : amount ≡ field s (next + term_width) w
  pub term_small : term < 2 ^ term_width
  pub amount_small : amount < 2 ^ count_width

pub pair_read : (s : List ℕ) (next w both term amount : ℕ) → next + (term_width + w) ≤ 8 * length s → w ≤ count_width
    → both ≡ field s next (term_width + w) → term ≡ both / 2 ^ w → amount ≡ both % 2 ^ w → PairRead s next w term amount
pair_read s next w both term amount h few eb et ea =
    let t : term ≡ field s next term_width = et ∙ rw eb (pair_term s next w h) in
    let u : amount ≡ field s (next + term_width) w = ea ∙ rw eb (pair_amount s next w h) in
    record {
      term_is = t;
      amount_is = u;
      term_small = rw t (field_lt s next term_width);
      amount_small = rw u (lt_of_lt_of_le (field_lt s (next + term_width) w) (pow_mono {j = count_width} few));
    }

module _ (s : List ℕ) (w i next : ℕ) where
  -- one place more of an array
  pub array_turn : (f : Pair → ℕ) (at : ℕ) (a : List ℕ) (x : ℕ) → i < most_pairs → next ≡ at + i * (term_width + w)
      → a ≡ padded most_pairs (map f (pairs_at s at w i)) → x ≡ f (pair_at s next w) → set a i x ≡ padded most_pairs (map f (pairs_at s at w (i + 1)))
  array_turn f at a x h n e v =
      let before : List ℕ = map f (pairs_at s at w i) in
      let found : ℕ = f (pair_at s (at + i * (term_width + w)) w) in
      let k : length before ≡ i = length-map (pairs_at s at w i) f ∙ length_pairs s at w i in
      rw (e, v, n, add-one i, pairs_more s at w i, map-append f (pairs_at s at w i) (pair_at s (at + i * (term_width + w)) w ∷ []))
      (sym (padded_more most_pairs before found (omega arith) ∙ ap (λ (j : ℕ). set (padded most_pairs before) j found) k))

  -- the number of what is left
  pub number_turn : (m number least term amount number' all-number : ℕ) → i < m
      → judged_from counted number least (pairs_at s next w (m - i)) ≡ all-number
      → term ≡ field s next term_width → amount ≡ field s (next + term_width) w → number' ≡ judge_next number (ltb 0 amount) least term
      → judged_from counted number' (term + 1) (pairs_at s (next + (term_width + w)) w (m - (i + 1))) ≡ all-number
  number_turn m number least term amount number' all-number h e et ea en =
      rw (en, add-one term, ea, et) (ap (judged_from counted number least) (sym (pairs_next s next w m i h)) ∙ e)

-- ---- pairs handed over side by side

pub beside_none : (n : ℕ) (ts us : List ℕ) → n ≡ 0 → side_by_side n ts us ≡ []
unfolding side_by_side
beside_none n ts us h = rw h

-- the number of what is left
pub beside_turn : (ts us : List ℕ) (w n i number least number' all-number : ℕ) → i < n → n ≤ length ts → n ≤ length us
    → judged_from (in_limits w) number least (side_by_side (n - i) (drop i ts) (drop i us)) ≡ all-number
    → number' ≡ judge_next number (sound_pair (2 ^ w) (get_or ts i 0) (get_or us i 0)) least (get_or ts i 0)
    → judged_from (in_limits w) number' (get_or ts i 0 + 1) (side_by_side (n - (i + 1)) (drop (i + 1) ts) (drop (i + 1) us)) ≡ all-number
unfolding side_by_side
beside_turn ts us w n i number least number' all-number h ht hu e en =
    let d : n - i ≡ suc (n - (i + 1)) = omega arith in
    let q : side_by_side (n - i) (drop i ts) (drop i us)
    ≡ record { term = get_or ts i 0; amount = get_or us i 0 } ∷ side_by_side (n - (i + 1)) (drop (i + 1) ts) (drop (i + 1) us) =
    rw (d, drop-cons ts i 0 (omega arith), drop-cons us i 0 (omega arith), add-one i) in
    rw (en, add-one (get_or ts i 0)) (ap (judged_from (in_limits w) number least) (sym q) ∙ e)
