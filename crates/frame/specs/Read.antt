-- What the reader answers: for each case of a frame the answer's case and values, and the pairs in two arrays.
-- Document 01, "The frame" and "Replies", and document 02, T-02, T-04 and T-06. Assumes nothing.
use Rattle.std.specs.Prelude.{ℕ, zero, suc, ◌+◌, ◌*◌, ◌≤◌, ◌≡◌, Bool, true, cond, List, [], ◌∷◌, map, length, eqb, leb, Result, Ok, Err, MatchResult, ⊤}
use Rattle.wire.specs.Field.{field, total}
use Rattle.paper.specs.Frame.{Pair, Frame, Row as TableRow, Shape, width, widths, row_of, kind_of, grade_of, level, grades_known, frame_of}
use Rattle.paper.specs.Frame.{positive, rising, pairs_at, bytes_for, fill_after, term_width, most_pairs}
use Rattle.paper.specs.Frame.Frame.{message, tick, register, unregister, cancel}
use Rattle.paper.specs.Frame.Shape.{refused, accepted}
use Rattle.paper.specs.Refusal.{number_of}
use Rattle.paper.specs.Write.{pairs_in}
use Rattle.paper.specs.declared.refusal.Refusal.{Refusal}
use Rattle.frame.specs.declared.Kind.{Kind}
use Rattle.frame.specs.declared.Kind.TheVariants.{Message, Tick, Register, Unregister, Cancel}
use Rattle.frame.specs.declared.Parsed.{Parsed}
use Rattle.frame.specs.declared.PairList.{PairList}
use Rattle.frame.specs.declared.Row.{Row}

-- the answer's case and values, for each case of a frame
abbrev pub answer_of : Frame → Kind
answer_of (message t s g ps) = Message (kind_of g) t s (level (grade_of g)) (length ps)
answer_of (tick t) = Tick t
answer_of (register t n k ps) = Register t n k (length ps)
answer_of (unregister t n) = Unregister t n
answer_of (cancel t s) = Cancel t s

-- the first n places of a list, and 0 where it is shorter
abbrev pub padded : ℕ → List ℕ → List ℕ
padded zero xs = []
padded (suc n) [] = 0 ∷ padded n []
padded (suc n) (x ∷ xs) = x ∷ padded n xs

-- the two arrays of pairs
abbrev pub term_array : List Pair → List ℕ
term_array ps = padded most_pairs (map (λ p. p.term) ps)

abbrev pub amount_array : List Pair → List ℕ
amount_array ps = padded most_pairs (map (λ p. p.amount) ps)

-- a shape that is the frame which is answered
pub record ReadFrame (sh : Shape) (p : Parsed) : Type 0 where
  pub frame : Frame
  pub is : sh ≡ accepted frame
  pub what : p.what ≡ answer_of frame
  pub terms : p.terms ≡ term_array (pairs_in frame)
  pub amounts : p.amounts ≡ amount_array (pairs_in frame)

-- the promise of `read`, for the shape of its bytes
abbrev pub ReadPost : Shape → Result Parsed Refusal → Type 0
ReadPost sh r = MatchResult r (ReadFrame sh) (λ e. sh ≡ refused (number_of e))

-- ---- the inner functions

-- the number of a refusal, or 0
abbrev pub verdict : {A : Type 0} → Result A Refusal → ℕ
verdict (Ok x) = 0
verdict (Err e) = number_of e

-- the row of the table that a kind's row in the code stands for
pub record RowPost (row : TableRow) (r : Row) : Type 0 where
  pub bits : r.bits ≡ total (widths row)
  pub widths : r.widths.now ≡ map width row.head
  pub amount : r.amount ≡ row.amount

-- no field has more than 32 bits
abbrev pub Narrow : List ℕ → Type 0
Narrow [] = Unit {0}
Narrow (w ∷ ws) = (w ≤ 32) × Narrow ws

-- the answer for a kind with these values, a grade among them one of the three, and m pairs
abbrev pub FramedPost : (kind : ℕ) (values : List ℕ) (m : ℕ) → Result Kind Refusal → Type 0
FramedPost kind values m r =
    (ps : List Pair) → grades_known (row_of kind).head values ≡ true → m ≡ length ps
    → MatchResult r (λ k. (f : Frame) × (frame_of kind values ps ≡ accepted f) × (k ≡ answer_of f)) (λ e. frame_of kind values ps ≡ refused (number_of e))

-- 5 or 6, or 0, of pairs
unfoldable pub pairs_number : Bool → List Pair → ℕ
pairs_number sound ps = cond sound (cond (rising ps) 0 6) 5

-- the same after one pair more, by what it was before it
unfoldable pub judge_next : ℕ → Bool → ℕ → ℕ → ℕ
judge_next number sound least term = cond sound (cond (eqb number 0) (cond (leb least term) 0 6) number) 5

-- 3 or 4, or 0
unfoldable pub fit_number : List ℕ → ℕ → ℕ
fit_number s bits = cond (eqb (length s) (bytes_for bits)) (cond (eqb (field s bits (fill_after bits)) 0) 0 4) 3

-- 3, 4, 14, 5 or 6, or 0, of m pairs after a head of h bits, whose grade is known or not
unfoldable pub check_number : List ℕ → ℕ → ℕ → ℕ → Bool → ℕ
check_number s h w m known =
    cond (eqb (fit_number s (h + m * (term_width + w))) 0)
    (cond known (pairs_number (positive (pairs_at s h w m)) (pairs_at s h w m)) 14)
    (fit_number s (h + m * (term_width + w)))

-- the m pairs from bit `at`, in two arrays
pub record InArrays (s : List ℕ) (at w m : ℕ) (p : PairList) : Type 0 where
  pub terms : p.terms ≡ term_array (pairs_at s at w m)
  pub amounts : p.amounts ≡ amount_array (pairs_at s at w m)

-- pairs as they are read, judged by 5 and 6
abbrev pub PairsPost : (s : List ℕ) (at w m : ℕ) → Result PairList Refusal → Type 0
PairsPost s at w m r =
    (verdict r ≡ pairs_number (positive (pairs_at s at w m)) (pairs_at s at w m)) × MatchResult r (InArrays s at w m) (λ _. ⊤)

-- where they are accepted, the length is what they need
abbrev pub CheckedPost : (s : List ℕ) (h w m : ℕ) (known : Bool) → Result PairList Refusal → Type 0
CheckedPost s h w m known r =
    (verdict r ≡ check_number s h w m known)
    × MatchResult r (λ p. (length s ≡ bytes_for (h + m * (term_width + w))) × InArrays s h w m p) (λ _. ⊤)
