-- What the session prints, as bytes: "Each frame prints its ordinal, its number, marks as eight hexadecimal digits, departures; then for each marked
-- query still registered, in rising number, `Q`, the query, entries, and serial and score of each entry." Assumes nothing.
use Rattle.std.specs.Prelude.{ℕ, zero, suc, ◌+◌, ◌/◌, ◌%◌, ◌≡◌, Bool, true, false, cond, List, [], ◌∷◌, ◌++◌, length, get_or, take, ltb, eqb}
use Rattle.engine.specs.Told.{ToldList}
use Rattle.engine.specs.Post.{ListPost}
use Rattle.io.specs.Digits.{hex_digit_ascii, last_digits}

-- ---- numbers

-- the decimal digits of n, which `most` hold, the first not 0 unless n is
unfoldable pub spelled : ℕ → ℕ → List ℕ
spelled zero n = []
spelled (suc most) n = cond (ltb n 10) [] (spelled most (n / 10)) ++ (hex_digit_ascii (n % 10) ∷ [])

-- twenty digits hold a number of 64 bits
abbrev pub decimal : ℕ → List ℕ
decimal n = spelled 20 n

-- a space and a number
abbrev pub field : ℕ → List ℕ
field n = 32 ∷ decimal n

-- a space and the marks
unfoldable pub marks_field : ℕ → List ℕ
marks_field marks = 32 ∷ last_digits 16 8 marks

-- ---- lines

abbrev pub reply_line : ℕ → ℕ → ℕ → ℕ → List ℕ
reply_line ordinal number marks departures =
    decimal ordinal ++ field number ++ marks_field marks ++ field departures ++ (10 ∷ [])

-- serial and score of the first n places of a list
unfoldable pub entries : List ℕ → List ℕ → ℕ → List ℕ
entries serials scores zero = []
entries serials scores (suc n) = entries serials scores n ++ (field (get_or serials n 0) ++ field (get_or scores n 0))

-- 81 is `Q`
abbrev pub list_line : ℕ → List ℕ → List ℕ → ℕ → List ℕ
list_line q serials scores count = (81 ∷ []) ++ field q ++ field count ++ entries serials scores count ++ (10 ∷ [])

-- what is printed of query q, by a list reading of the state s: its line where it is marked and still registered
pub data Shown (s : List ℕ) (q : ℕ) : Bool → List ℕ → Type 0 where
  unmarked : Shown s q false []
  unregistered : (r : ToldList) → ListPost s q r → (r.number ≡ 0 → ⊥) → Shown s q true []
  registered : (r : ToldList) → ListPost s q r → r.number ≡ 0 → Shown s q true (list_line q r.list.serials r.list.scores r.list.count)

-- the marks of the queries from number q on
unfoldable pub marks_from : ℕ → ℕ → ℕ
marks_from marks zero = marks
marks_from marks (suc q) = marks_from marks q / 2

-- what is printed of the queries below a number, in rising number
pub data Lists (s : List ℕ) (marks : ℕ) : ℕ → List ℕ → Type 0 where
  none : Lists s marks zero []
  next : {q : ℕ} {text one : List ℕ} → Lists s marks q text → Shown s q (eqb (marks_from marks q % 2) 1) one → Lists s marks (suc q) (text ++ one)

-- ---- the buffer

-- the text was put after the first `at` bytes of a buffer, and ends at r
pub record Put (text : List ℕ) (at : ℕ) (out : List ℕ) (r : ℕ) (out' : List ℕ) : Type 0 where
  pub long : length out' ≡ length out
  pub end : r ≡ at + length text
  pub bytes : take r out' ≡ take at out ++ text

-- a text of that kind was put there
pub record Printed (Kind : List ℕ → Type 0) (at : ℕ) (out : List ℕ) (r : ℕ) (out' : List ℕ) : Type 0 where
  pub text : List ℕ
  pub right : Kind text
  pub put : Put text at out r out'
