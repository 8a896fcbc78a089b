-- The writer: a frame from its fields, or the first of 2, 14, 5, 6 and 12 that applies.
-- Document 01: "The writer makes a frame from its fields, judges only the fields of that kind, and returns the frame's length in bytes."
-- Assumes nothing.
use Rattle.std.specs.Prelude.{ℕ, zero, suc, ◌-◌, ◌^◌, Bool, true, cond, ◌&&◌, List, [], ◌∷◌, map, length, eqb, leb, ltb}
use Rattle.paper.specs.Frame.{Pair, Frame, Shape, encode, term_width, level, Fields, Field, Row, row_of, known, frame_of, grades_known, judged}
use Rattle.paper.specs.Frame.Frame.{message, tick, register, unregister, cancel}
use Rattle.paper.specs.Frame.Form.{ungraded, graded, long}
use Rattle.paper.specs.Frame.Field.{plain, less_one, grade}
use Rattle.paper.specs.Frame.Shape.{refused, accepted}

-- the first n places of two lists, side by side
unfoldable pub side_by_side : ℕ → List ℕ → List ℕ → List Pair
side_by_side zero ts us = []
side_by_side (suc n) [] us = []
side_by_side (suc n) (t ∷ ts) [] = []
side_by_side (suc n) (t ∷ ts) (u ∷ us) = record { term = t; amount = u } ∷ side_by_side n ts us

-- from 1 up to `most`
abbrev pub within : ℕ → ℕ → Bool
within most n = ltb 0 n && leb n most

-- terms of ten bits, counts or weights from 1 on of w bits
unfoldable pub all_within : ℕ → List Pair → Bool
all_within w [] = true
all_within w (p ∷ ps) = ltb p.term (2 ^ term_width) && (ltb 0 p.amount && ltb p.amount (2 ^ w)) && all_within w ps

-- a field's number is within its range, and what is written of it
abbrev pub in_range : Field → Fields → Bool
in_range (plain of w) f = ltb (of f) (2 ^ w)
in_range (less_one of w) f = within (2 ^ w) (of f)
in_range (grade of w) f = ltb (of f) (2 ^ w)

abbrev pub value_of : Fields → Field → ℕ
value_of f (plain of w) = of f
value_of f (less_one of w) = of f - 1
value_of f (grade of w) = of f

-- whether every field before the pairs is within its range
unfoldable pub head_within : List Field → Fields → Bool
head_within [] f = true
head_within (x ∷ xs) f = in_range x f && head_within xs f

-- how many pairs a kind takes, and which
abbrev pub pairs_taken : Row → Fields → ℕ
pairs_taken row f = cond (eqb row.amount 0) 0 f.pairs

abbrev pub pairs_of : Row → Fields → List Pair
pairs_of row f = side_by_side (pairs_taken row f) f.terms f.amounts

-- whether both lists are as long as the number of pairs says, and each pair is within its range
abbrev pub pairs_within : Row → Fields → Bool
pairs_within row f =
    leb (pairs_taken row f) (length f.terms) && leb (pairs_taken row f) (length f.amounts) && all_within row.amount (pairs_of row f)

-- 2, 14, 5, 6, or the frame: only the fields of the kind are looked at
unfoldable pub from_kind : ℕ → Fields → Shape
from_kind kind f =
    let row = row_of kind in
    let values = map (value_of f) row.head in
    cond (known row)
    (judged (grades_known row.head values) (head_within row.head f && pairs_within row f) (pairs_of row f) (frame_of kind values (pairs_of row f)))
    (refused 2)

abbrev pub from_fields : Fields → Shape
from_fields f = from_kind f.kind f

-- the bytes to write, none where refused
abbrev pub bytes_of : Shape → List ℕ
bytes_of (refused r) = []
bytes_of (accepted f) = encode f

-- "The writer: 2, 5, 6, then 12", 14 before 5: 0 where the frame is written into output of so many bytes
abbrev pub write_number : ℕ → Shape → ℕ
write_number room (refused r) = r
write_number room (accepted f) = cond (leb (length (encode f)) room) 0 12

-- ---- the fields that make a frame, those of other kinds 0

abbrev pub fields_for : (kind time serial urgency number k pairs : ℕ) → (terms amounts : List ℕ) → Fields
fields_for kind t s u n k m ts us =
    record { kind = kind; time = t; serial = s; urgency = u; number = n; k = k; pairs = m; terms = ts; amounts = us }

-- the fields of a frame whose pairs are the first places of two lists
abbrev pub fields_with : Frame → List ℕ → List ℕ → Fields
fields_with (message t s ungraded ps) ts us = fields_for 1 t s 0 0 0 (length ps) ts us
fields_with (message t s (graded u) ps) ts us = fields_for 6 t s (level u) 0 0 (length ps) ts us
fields_with (message t s (long u) ps) ts us = fields_for 7 t s (level u) 0 0 (length ps) ts us
fields_with (tick t) ts us = fields_for 2 t 0 0 0 0 0 ts us
fields_with (register t n k ps) ts us = fields_for 3 t 0 0 n k (length ps) ts us
fields_with (unregister t n) ts us = fields_for 4 t 0 0 n 0 0 ts us
fields_with (cancel t s) ts us = fields_for 5 t s 0 0 0 0 ts us

-- a frame's pairs, none where its kind has no such field
abbrev pub pairs_in : Frame → List Pair
pairs_in (message t s g ps) = ps
pairs_in (tick t) = []
pairs_in (register t n k ps) = ps
pairs_in (unregister t n) = []
pairs_in (cancel t s) = []

abbrev pub fields_of : Frame → Fields
fields_of f = fields_with f (map (λ p. p.term) (pairs_in f)) (map (λ p. p.amount) (pairs_in f))
