-- Messages looked at: slots picked, and a row of impacts for each. Assumes nothing.
use Rattle.std.specs.Prelude.{ℕ, zero, suc, ◌+◌, ◌-◌, ◌*◌, ◌≤◌, ◌<◌, ◌≡◌}
use Rattle.std.specs.Prelude.{Bool, true, false, cond, ◌||◌, List, [], ◌∷◌, ◌++◌, map, length, get_or, take, eqb, ltb}
use Rattle.paper.specs.Layout.{slots}
use Rattle.paper.specs.Order.{In}
use Rattle.paper.specs.Sort.{select}
use Rattle.wire.specs.Bits.{bits}
use Rattle.impact.specs.Cell.{cell_term, lookup}
use Rattle.rank.specs.declared.Ranked.{Ranked}
use Rattle.rank.specs.Listing.{keyed_of, Tidy}
use Rattle.window.specs.Slot.{slot, ring}
use Rattle.window.specs.Table.{term_limit}
use Rattle.window.specs.Rows.{row_width, Narrow}
use Rattle.candidates.specs.declared.query.Query.{Query}
use Rattle.candidates.specs.Flags.{flag_of}
use Rattle.candidates.specs.Post.{Rising, exceeds_in, line_in, grows}

-- the word without its first k bits
abbrev pub LaterBits : ℕ → ℕ → ℕ → Type 0
LaterBits word k r = (i : ℕ) → i < 32 → get_or (bits 32 r) i false ≡ cond (ltb i k) false (get_or (bits 32 word) i false)

-- bit r is set, and none before it
pub record FirstBit (word r : ℕ) : Type 0 where
  pub inside : r < 32
  pub found : get_or (bits 32 word) r false ≡ true
  pub none : (i : ℕ) → i < r → get_or (bits 32 word) i false ≡ false

-- the first r are the slots flagged of n from slot o on
pub record Picked (o n : ℕ) (fs picked : List ℕ) (r : ℕ) : Type 0 where
  pub within : r ≤ n
  pub long : length picked ≡ slots
  pub below : (i : ℕ) → i < r → get_or picked i 0 < slots
  pub right : take r picked ≡ select (flag_of fs) (ring o n)

-- the first r are the first m of those before and then the slots flagged from slot o up to slot e
pub record PickedRun (o e : ℕ) (fs : List ℕ) (m : ℕ) (before picked : List ℕ) (r : ℕ) : Type 0 where
  pub within : r ≤ m + (e - o)
  pub long : length picked ≡ slots
  pub below : (i : ℕ) → i < r → get_or picked i 0 < slots
  pub right : take r picked ≡ take m before ++ select (flag_of fs) (ring o (e - o))

-- the query's terms are terms
abbrev pub Known : Query → Type 0
Known q = (p : ℕ) → p < q.n → get_or q.terms p 0 < term_limit

-- the table gives the query's terms the places from 1 on, and no place but 0 to any other term
pub record Placed (q : Query) (places : List ℕ) : Type 0 where
  pub long : length places ≡ term_limit
  pub low : (t : ℕ) → get_or places t 0 ≤ q.n
  pub right : Rising q → Known q → (t p : ℕ) → p < q.n → eqb (get_or places t 0) (suc p) ≡ eqb t (get_or q.terms p 0)

-- row i has the impacts of the message with these cells in the query's terms
abbrev pub RowOf : List ℕ → Query → List ℕ → ℕ → Type 0
RowOf cs q rows i = (p : ℕ) → p < q.n → get_or rows (row_width * i + 1 + p) 0 ≡ lookup (get_or q.terms p 0) cs

-- a row for each of the slots
pub record Rows (w js : List ℕ) (q : Query) (rows : List ℕ) : Type 0 where
  pub narrow : Narrow rows
  pub right : Rising q → Known q → (i : ℕ) → i < length js → RowOf (slot w (get_or js i 0)).cells q rows i

-- whether a term is one of the first n
unfoldable pub among : ℕ → List ℕ → ℕ → Bool
among zero ts t = false
among (suc n) ts t = eqb t (get_or ts n 0) || among n ts t

-- whether a message with these cells has one of the query's terms
unfoldable pub shares : Query → List ℕ → Bool
shares q [] = false
shares q (c ∷ cs) = among q.n q.terms (cell_term c) || shares q cs

-- of some slots, those whose messages pass a test that none with one of the query's terms fails
pub record Having (w : List ℕ) (q : Query) (js js' : List ℕ) : Type 0 where
  pub test : ℕ → Bool
  pub kept : js' ≡ select test js
  pub silent : Rising q → Known q → (j : ℕ) → test j ≡ false → (p : ℕ) → p < q.n → lookup (get_or q.terms p 0) (slot w j).cells ≡ 0

-- the first r are those of n slots from slot o on whose messages have one of the query's terms
pub record Gathered (w : List ℕ) (q : Query) (o n : ℕ) (picked : List ℕ) (r : ℕ) : Type 0 where
  pub within : r ≤ n
  pub long : length picked ≡ slots
  pub below : (i : ℕ) → i < r → get_or picked i 0 < slots
  pub right : Rising q → Known q → take r picked ≡ select (λ j. shares q (slot w j).cells) (ring o n)

-- a row for each of the slots, and room for all of the window
pub record Looked (w js : List ℕ) (q : Query) (rows : List ℕ) : Type 0 where
  pub long : length rows ≡ row_width * slots
  pub right : Rows w js q rows

-- the list of the messages looked at
pub record RankedRows (w js : List ℕ) (q : Query) (rows : List ℕ) (r : Ranked) : Type 0 where
  pub within : r.count ≤ q.k
  pub tidy : Tidy r
  pub right : Rows w js q rows → Rising q → Known q → keyed_of r ≡ grows q.k [] (map (line_in w q) js)

-- the flags of those looked at that exceed one of the thresholds
pub record SiftedRows (js : List ℕ) (q : Query) (rows hs r : List ℕ) : Type 0 where
  pub right : (w : List ℕ) → Rows w js q rows → Rising q → Known q → (j : ℕ) → In j js → flag_of r j ≡ exceeds_in w q hs j
  pub others : (j : ℕ) → (In j js → ⊥) → flag_of r j ≡ false
