-- The frame: its fields, its bytes, and what any list of bytes is as a frame.
-- Document 01, "The frame", and document 02, T-02, T-04 and T-06. Assumes nothing.
use Rattle.std.specs.Prelude.{
  ℕ,
  zero,
  suc,
  ◌+◌,
  ◌-◌,
  ◌*◌,
  ◌/◌,
  ◌^◌,
  ◌≤◌,
  ◌<◌,
  ◌≡◌,
  Bool,
  true,
  cond,
  ◌&&◌,
  List,
  [],
  ◌∷◌,
  ◌++◌,
  map,
  length,
  get_or,
  eqb,
  leb,
  ltb,
}
use Rattle.wire.specs.Bits.{pack}
use Rattle.wire.specs.Field.{field, total, spell, scan}

-- A term with its count in a message, or with its weight in a query.
pub record Pair : Type 0 where
  pub term : ℕ
  pub amount : ℕ

abbrev pub terms : List Pair → List ℕ
terms ps = map (λ p. p.term) ps

-- "graded routine, important or vital"
pub data Urgency : Type 0 where
  routine : Urgency
  important : Urgency
  vital : Urgency

-- its number in a frame: "0 routine, 1 important, 2 vital"
abbrev pub level : Urgency → ℕ
level routine = 0
level important = 1
level vital = 2

-- the urgency of a number, which is one of the three
abbrev pub urgency_of : ℕ → Urgency
urgency_of zero = routine
urgency_of (suc zero) = important
urgency_of (suc (suc n)) = vital

-- How a message is written: without its urgency, which is kind 1; with it, which is kind 6; with it and room for more pairs, which is kind 7.
pub data Form : Type 0 where
  ungraded : Form
  graded : Urgency → Form
  long : Urgency → Form

-- "Kind 1 means routine."
abbrev pub grade_of : Form → Urgency
grade_of ungraded = routine
grade_of (graded u) = u
grade_of (long u) = u

-- the kind that a form is
abbrev pub kind_of : Form → ℕ
kind_of ungraded = 1
kind_of (graded u) = 6
kind_of (long u) = 7

-- The kinds with their fields: four of document 01, whose drop is `unregister`, and T-02's `cancel`. A message has three forms.
pub data Frame : Type 0 where
  message : (time serial : ℕ) → Form → List Pair → Frame
  tick : (time : ℕ) → Frame
  register : (time number k : ℕ) → List Pair → Frame
  unregister : (time number : ℕ) → Frame
  cancel : (time serial : ℕ) → Frame

-- What a caller of the writer may hand over: any numbers; the first `pairs` places of both lists are the pairs.
pub record Fields : Type 0 where
  pub kind : ℕ
  pub time : ℕ
  pub serial : ℕ
  pub urgency : ℕ
  pub number : ℕ
  pub k : ℕ
  pub pairs : ℕ
  pub terms : List ℕ
  pub amounts : List ℕ

-- ---- the widths of fields that have a name elsewhere too

abbrev pub kind_width : ℕ
kind_width = 4

abbrev pub time_width : ℕ
time_width = 32

abbrev pub serial_width : ℕ
serial_width = 20

abbrev pub urgency_width : ℕ
urgency_width = 2

-- the number of pairs of a message, less one: in kinds 1 and 6, and in kind 7
abbrev pub pairs_width : ℕ
pairs_width = 4

abbrev pub long_pairs_width : ℕ
long_pairs_width = 5

abbrev pub number_width : ℕ
number_width = 5

abbrev pub term_width : ℕ
term_width = 10

abbrev pub count_width : ℕ
count_width = 8

abbrev pub weight_width : ℕ
weight_width = 4

-- ---- the table

-- A field before the pairs: which number it holds, and its width. "less one" is written one less than the number, which is then 1 or more; a grade is
-- an urgency's number.
pub data Field : Type 0 where
  plain : (Fields → ℕ) → ℕ → Field
  less_one : (Fields → ℕ) → ℕ → Field
  grade : (Fields → ℕ) → ℕ → Field

abbrev pub width : Field → ℕ
width (plain of w) = w
width (less_one of w) = w
width (grade of w) = w

-- A kind's row: its fields after the kind and before the pairs, and the width of a pair's count or weight, 0 where the kind has no pairs. Where it
-- has, the last field is their number.
pub record Row : Type 0 where
  pub head : List Field
  pub amount : ℕ

-- the field after the kind of every frame
abbrev pub time : Field
time = plain (λ f. f.time) time_width

abbrev pub message_row : Row
message_row = record {
  head = time ∷ plain (λ f. f.serial) serial_width ∷ less_one (λ f. f.pairs) pairs_width ∷ [];
  amount = count_width;
}

abbrev pub tick_row : Row
tick_row = record { head = time ∷ []; amount = 0 }

abbrev pub register_row : Row
register_row = record {
  head = time ∷ plain (λ f. f.number) number_width ∷ less_one (λ f. f.k) 4 ∷ less_one (λ f. f.pairs) 3 ∷ [];
  amount = weight_width;
}

abbrev pub unregister_row : Row
unregister_row = record { head = time ∷ plain (λ f. f.number) number_width ∷ []; amount = 0 }

-- "kind, time and a 20-bit serial"
abbrev pub cancel_row : Row
cancel_row = record { head = time ∷ plain (λ f. f.serial) serial_width ∷ []; amount = 0 }

-- "a message with a 2-bit urgency after the serial", its number of pairs in a field of w bits
abbrev pub graded_by : ℕ → Row
graded_by w = record {
  head = time ∷ plain (λ f. f.serial) serial_width ∷ grade (λ f. f.urgency) urgency_width ∷ less_one (λ f. f.pairs) w ∷ [];
  amount = count_width;
}

abbrev pub graded_row : Row
graded_row = graded_by pairs_width

-- "Kind 7 is kind 6 with a 5-bit pairs field"
abbrev pub long_row : Row
long_row = graded_by long_pairs_width

abbrev pub no_row : Row
no_row = record { head = []; amount = 0 }

-- the row of a kind. A new kind is one more row here, one more case of `frame_of` and of `encode`.
unfoldable pub row_of : ℕ → Row
row_of kind =
    cond (eqb kind 1) message_row
    (cond (eqb kind 2) tick_row
    (cond (eqb kind 3) register_row
    (cond (eqb kind 4) unregister_row
    (cond (eqb kind 5) cancel_row
    (cond (eqb kind 6) graded_row
    (cond (eqb kind 7) long_row
    no_row))))))

-- whether a kind has a row
abbrev pub known : Row → Bool
known row = ltb 0 (length row.head)

-- the most pairs of a message, terms of a query and entries of a list: what their fields can say
abbrev pub most_pairs : ℕ
most_pairs = 2 ^ long_pairs_width

abbrev pub most_terms : ℕ
most_terms = 8

abbrev pub most_listed : ℕ
most_listed = 16

-- query numbers are 0 to 31
abbrev pub numbers : ℕ
numbers = 2 ^ number_width

-- ---- the sizes, by the widths

-- of all fields before the pairs, the kind with them
abbrev pub widths : Row → List ℕ
widths row = kind_width ∷ map width row.head

-- m pairs, whose count or weight has w bits
unfoldable pub pair_widths : ℕ → ℕ → List ℕ
pair_widths w zero = []
pair_widths w (suc m) = term_width ∷ w ∷ pair_widths w m

unfoldable pub pair_values : List Pair → List ℕ
pair_values [] = []
pair_values (p ∷ ps) = p.term ∷ p.amount ∷ pair_values ps

-- "Bits: message 60 + 18m, tick 36, register 48 + 14n, drop 41", cancel 56, graded message 62 + 18m, long one 63 + 18m: fields of these widths, and
-- m pairs
abbrev pub bits_of : List ℕ → ℕ → ℕ → ℕ
bits_of head w m = total head + m * (term_width + w)

-- how many bytes hold so many bits, and how many bits then fill up the last one
abbrev pub bytes_for : ℕ → ℕ
bytes_for b = (b + 7) / 8

abbrev pub fill_after : ℕ → ℕ
fill_after b = bytes_for b * 8 - b

-- ---- the bytes of a frame

-- the fields in order; "After the last field, zero bits fill up the last byte."
unfoldable pub written : List ℕ → ℕ → List ℕ → List Pair → List ℕ
written head w values pairs =
    pack (bytes_for (bits_of head w (length pairs)))
    (spell
    (head ++ (pair_widths w (length pairs) ++ (fill_after (bits_of head w (length pairs)) ∷ [])))
    (values ++ (pair_values pairs ++ (0 ∷ []))))

abbrev pub written_by : Row → List ℕ → List Pair → List ℕ
written_by row values pairs = written (widths row) row.amount values pairs

unfoldable pub encode : Frame → List ℕ
encode (message t s ungraded ps) = written_by message_row (1 ∷ t ∷ s ∷ (length ps - 1) ∷ []) ps
encode (message t s (graded u) ps) = written_by graded_row (6 ∷ t ∷ s ∷ level u ∷ (length ps - 1) ∷ []) ps
encode (message t s (long u) ps) = written_by long_row (7 ∷ t ∷ s ∷ level u ∷ (length ps - 1) ∷ []) ps
encode (tick t) = written_by tick_row (2 ∷ t ∷ []) []
encode (register t n k ps) = written_by register_row (3 ∷ t ∷ n ∷ (k - 1) ∷ (length ps - 1) ∷ []) ps
encode (unregister t n) = written_by unregister_row (4 ∷ t ∷ n ∷ []) []
encode (cancel t s) = written_by cancel_row (5 ∷ t ∷ s ∷ []) []

-- ---- what a list of bytes is

-- refused by a number of the table, or a frame
pub data Shape : Type 0 where
  refused : ℕ → Shape
  accepted : Frame → Shape

-- the frame of a kind, made of the values of its fields after the kind, and of its pairs
unfoldable pub frame_of : ℕ → List ℕ → List Pair → Shape
frame_of kind values pairs =
    let at : ℕ → ℕ = λ i. get_or values i 0 in
    cond (eqb kind 1) (accepted (message (at 0) (at 1) ungraded pairs))
    (cond (eqb kind 2) (accepted (tick (at 0)))
    (cond (eqb kind 3) (accepted (register (at 0) (at 1) (at 2 + 1) pairs))
    (cond (eqb kind 4) (accepted (unregister (at 0) (at 1)))
    (cond (eqb kind 5) (accepted (cancel (at 0) (at 1)))
    (cond (eqb kind 6) (accepted (message (at 0) (at 1) (graded (urgency_of (at 2))) pairs))
    (cond (eqb kind 7) (accepted (message (at 0) (at 1) (long (urgency_of (at 2))) pairs))
    (refused 2)))))))

-- the values of the fields after the kind, one after the other
abbrev pub values_at : List ℕ → Row → List ℕ
values_at s row = scan s kind_width (map width row.head)

-- how many pairs these values say: the last of them says one less
abbrev pub pairs_by : Row → List ℕ → ℕ
pairs_by row values = cond (eqb row.amount 0) 0 (get_or values (length row.head - 1) 0 + 1)

-- the m pairs from bit `at`
unfoldable pub pairs_at : List ℕ → ℕ → ℕ → ℕ → List Pair
pairs_at s at w zero = []
pairs_at s at w (suc m) =
    record { term = field s at term_width; amount = field s (at + term_width) w } ∷ pairs_at s (at + (term_width + w)) w m

-- every count or weight is above 0
unfoldable pub positive : List Pair → Bool
positive [] = true
positive (p ∷ ps) = ltb 0 p.amount && positive ps

-- "Terms .. rise strictly within a frame": each is at least `least`, which is one above the term before
unfoldable pub rises : ℕ → List Pair → Bool
rises least [] = true
rises least (p ∷ ps) = leb least p.term && rises (suc p.term) ps

abbrev pub rising : List Pair → Bool
rising ps = rises 0 ps

-- whether a value is a grade where its field is one, and whether all values are
abbrev pub grade_known : Field → ℕ → Bool
grade_known (plain of w) v = true
grade_known (less_one of w) v = true
grade_known (grade of w) v = leb v (level vital)

unfoldable pub grades_known : List Field → List ℕ → Bool
grades_known [] vs = true
grades_known (x ∷ xs) [] = true
grades_known (x ∷ xs) (v ∷ vs) = grade_known x v && grades_known xs vs

-- 14, then 5, then 6, or what is made of the pairs
abbrev pub judged : Bool → Bool → List Pair → Shape → Shape
judged known sound ps made = cond known (cond sound (cond (rising ps) made (refused 6)) (refused 5)) (refused 14)

-- 3, then 4, then the grade and the pairs, of a frame with fields of these widths before its m pairs. No message has fewer than 10 bytes and no
-- registration fewer than 8, so one that ends before its number of pairs is 3 whatever is read for that number.
unfoldable pub check : List ℕ → List ℕ → ℕ → ℕ → Bool → (List Pair → Shape) → Shape
check s head w m known make =
    cond (eqb (length s) (bytes_for (bits_of head w m)))
    (cond (eqb (field s (bits_of head w m) (fill_after (bits_of head w m))) 0)
    (judged known (positive (pairs_at s (total head) w m)) (pairs_at s (total head) w m) (make (pairs_at s (total head) w m)))
    (refused 4))
    (refused 3)

-- 2 for a kind without a row, or the rest by its row
unfoldable pub shape_of_kind : ℕ → List ℕ → Shape
shape_of_kind kind s =
    let row = row_of kind in
    let values = values_at s row in
    cond (known row) (check s (widths row) row.amount (pairs_by row values) (grades_known row.head values) (frame_of kind values)) (refused 2)

-- the first of the refusals 1 to 4, 14, 5 and 6 that applies, or the frame
unfoldable pub shape : List ℕ → Shape
shape s = cond (ltb (length s) 5) (refused 1) (shape_of_kind (field s 0 kind_width) s)

-- ---- the ranges of the table

-- every term is 0 to 1,023 and every count or weight has at most w bits
abbrev pub AllFit : ℕ → List Pair → Type 0
AllFit w [] = Unit {0}
AllFit w (p ∷ ps) = (p.term < 2 ^ term_width) × (p.amount < 2 ^ w) × AllFit w ps

-- 1 to `most` pairs, each within its fields, no count or weight 0, terms rising
pub record Pairs (w most : ℕ) (ps : List Pair) : Type 0 where
  pub least_one : 1 ≤ length ps
  pub at_most : length ps ≤ most
  pub fit : AllFit w ps
  pub above_zero : positive ps ≡ true
  pub in_order : rising ps ≡ true

-- the most pairs of a message in a form: "Kinds 1 and 6 stay readable at 16"
abbrev pub most_in : Form → ℕ
most_in ungraded = 2 ^ pairs_width
most_in (graded u) = 2 ^ pairs_width
most_in (long u) = most_pairs

pub record ValidMessage (t s : ℕ) (g : Form) (ps : List Pair) : Type 0 where
  pub time : t < 2 ^ time_width
  pub serial : s < 2 ^ serial_width
  pub pairs : Pairs count_width (most_in g) ps

pub record ValidQuery (t n k : ℕ) (ps : List Pair) : Type 0 where
  pub time : t < 2 ^ time_width
  pub number : n < numbers
  pub k_least : 1 ≤ k
  pub k_most : k ≤ most_listed
  pub terms : Pairs weight_width most_terms ps

-- every field is within its range
abbrev pub Valid : Frame → Type 0
Valid (message t s g ps) = ValidMessage t s g ps
Valid (tick t) = t < 2 ^ time_width
Valid (register t n k ps) = ValidQuery t n k ps
Valid (unregister t n) = (t < 2 ^ time_width) × (n < numbers)
Valid (cancel t s) = (t < 2 ^ time_width) × (s < 2 ^ serial_width)
