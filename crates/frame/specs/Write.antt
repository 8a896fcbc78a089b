-- What the writer answers and leaves in the output. Document 01, "The frame" and "Replies", and document 02, T-02, T-04 and T-06. Assumes nothing.
use Rattle.std.specs.Prelude.{ℕ, ◌+◌, ◌-◌, ◌^◌, ◌≡◌, Bool, true, cond, ◌&&◌, List, [], ◌∷◌, ◌++◌, map, length, take, drop, eqb, leb, ltb, Result, Ok, Err}
use Rattle.wire.specs.Bits.{unpack}
use Rattle.paper.specs.Frame.{Fields, Shape, width, row_of, grades_known, term_width, pair_widths, pair_values}
use Rattle.paper.specs.Refusal.{number_of}
use Rattle.paper.specs.Write.{side_by_side, within, all_within, head_within, value_of, fields_for, write_number, bytes_of}
use Rattle.paper.specs.declared.refusal.Refusal.{Refusal}
use Rattle.wire.specs.Field.{spell}
use Rattle.frame.specs.declared.Kind.{Kind}
use Rattle.frame.specs.declared.Kind.TheVariants.{Message, Tick, Register, Unregister, Cancel}
use Rattle.frame.specs.declared.Parsed.{Parsed}
use Rattle.frame.specs.Read.{pairs_number}

-- the fields that are handed over
abbrev pub fields : (kind time serial urgency number k pairs : ℕ) (terms amounts : List ℕ) → Fields
fields = fields_for

-- a writing's answer in numbers: 0 and the frame's length in bytes, or the refusal's and 0
pub record Written : Type 0 where
  pub number : ℕ
  pub length : ℕ

abbrev pub in_numbers : Result ℕ Refusal → Written
in_numbers (Ok n) = record { number = 0; length = n }
in_numbers (Err e) = record { number = number_of e; length = 0 }

-- the promise of `write`, for what its fields are, with output s at entry and t at exit: the frame's bytes and what stood past them where the
-- number is 0, and else the output as it was
pub record WritePost (sh : Shape) (s t : List ℕ) (r : Written) : Type 0 where
  pub number : r.number ≡ write_number (length s) sh
  pub size : r.length ≡ cond (eqb r.number 0) (length (bytes_of sh)) 0
  pub bytes : t ≡ cond (eqb r.number 0) (bytes_of sh ++ drop (length (bytes_of sh)) s) s

-- the fields that an answer of the reader lists, for the writer
abbrev pub fields_by : Kind → List ℕ → List ℕ → Fields
fields_by (Message form t s u n) terms amounts = fields form t s u 0 0 n terms amounts
fields_by (Tick t) terms amounts = fields 2 t 0 0 0 0 0 terms amounts
fields_by (Register t n k m) terms amounts = fields 3 t 0 0 n k m terms amounts
fields_by (Unregister t n) terms amounts = fields 4 t 0 0 n 0 0 terms amounts
fields_by (Cancel t s) terms amounts = fields 5 t s 0 0 0 0 terms amounts

abbrev pub fields_in : Parsed → Fields
fields_in r = fields_by r.what r.terms r.amounts

-- ---- the inner functions

-- whether a pair is within its fields' ranges, its count or weight below `limit`
abbrev pub sound_pair : ℕ → ℕ → ℕ → Bool
sound_pair limit term amount = ltb term (2 ^ term_width) && (ltb 0 amount && ltb amount limit)

-- a number as it stands in a field less one; what is out of range is more than such a field holds
abbrev pub less_one : ℕ → ℕ
less_one n = cond (within 256 n) (n - 1) (2 ^ 32 - 1)

-- whether values have no more bits than their fields
unfoldable pub fitting : List ℕ → List ℕ → Bool
fitting [] vs = true
fitting (w ∷ ws) [] = true
fitting (w ∷ ws) (v ∷ vs) = ltb v (2 ^ w) && fitting ws vs

-- the values of a kind's fields, in the first places: their grades are the fields', they fit exactly if the fields are in range, and are then what
-- is written
pub record ValuesPost (x : Fields) (values : List ℕ) : Type 0 where
  pub grades : grades_known (row_of x.kind).head values ≡ grades_known (row_of x.kind).head (map (value_of x) (row_of x.kind).head)
  pub fit : fitting (map width (row_of x.kind).head) values ≡ head_within (row_of x.kind).head x
  pub are : head_within (row_of x.kind).head x ≡ true → take (length (row_of x.kind).head) values ≡ map (value_of x) (row_of x.kind).head

-- 5 or 6, or 0, of the pairs that are handed over
unfoldable pub pairs_verdict : ℕ → ℕ → List ℕ → List ℕ → ℕ
pairs_verdict w n ts us =
    pairs_number (leb n (length ts) && leb n (length us) && all_within w (side_by_side n ts us)) (side_by_side n ts us)

-- bytes put into output s, which leaves t, and their number
pub record PutPost (bytes s t : List ℕ) (r : ℕ) : Type 0 where
  pub size : r ≡ length bytes
  pub put : t ≡ bytes ++ drop r s

-- the bits of s, with those from bit `at` replaced by bs
unfoldable pub laid : List ℕ → ℕ → List Bool → List Bool
laid s at bs = take at (unpack s) ++ bs ++ drop (at + length bs) (unpack s)

-- the bits of n pairs
unfoldable pub pair_bits : ℕ → ℕ → List ℕ → List ℕ → List Bool
pair_bits w n ts us = spell (pair_widths w n) (pair_values (side_by_side n ts us))
