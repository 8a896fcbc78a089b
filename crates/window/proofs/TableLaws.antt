-- A table raised to the impacts of a message's cells, cell by cell, and to those of the messages in some slots. Assumes nothing.
use Prim.Native.Nat.{ℕ, suc, ◌+◌, ◌-◌, ◌≤◌, ◌<◌, max}
use native.Mathlib.Nat.{zero-max}
use native.Mathlib.Omega.{arith}
use mathlib.Core.Path.{◌≡◌, refl, ap, ap₂, ◌∙◌}
use mathlib.Core.Bool.{cond}
use mathlib.Core.List.{List, [], ◌∷◌, map}
use lib.ListN.{length, get_or, set, drop, replicate, get_or-replicate, drop_of_length-le}
use lib.Seq.{drop-cons}
use lib.Dec.{eqb}
use borrow.Author.Tests.{ne_eqb}
use Rattle.std.proofs.lemmas.Grind.{common_steps}
use Rattle.std.proofs.lemmas.Bool.Decides.{nat_tests}
use Rattle.paper.specs.Sort.{select}
use Rattle.impact.specs.Cell.{cell_term, cell_impact, lookup, RisingCells}
use Rattle.window.specs.Slot.{Slot, slot, next, window, live}
use Rattle.window.specs.Table.{term_limit, highest, greatest, entry_of, Raised, RaisedBy, TableOf}
use Rattle.window.proofs.RingLaws.{ring_step, ring_none}
use Rattle.window.proofs.SlotLaws.{silent_cells}

-- What is left to raise the table by (`rest` gives what each term has there) makes it the first one raised by all of it.
pub record Raising (all : ℕ → ℕ) (first : List ℕ) (rest : ℕ → ℕ) (table : List ℕ) : Type 0 where
  left : (t : ℕ) → t < term_limit → max (entry_of table t) (rest t) ≡ max (entry_of first t) (all t)

pub raising_none : {all : ℕ → ℕ} {first : List ℕ} → Raising all first all first
raising_none = record { left = λ t h. refl }

module _ {all : ℕ → ℕ} {first table : List ℕ} where
  raising_more : {rest : ℕ → ℕ} (some rest' : ℕ → ℕ) {table' : List ℕ} → ((t : ℕ) → rest t ≡ max (some t) (rest' t))
      → ((t : ℕ) → t < term_limit → entry_of table' t ≡ max (entry_of table t) (some t)) → Raising all first rest table → Raising all first rest' table'
  raising_more some rest' parts step before = record { left = λ t h. omega (arith, step t h, parts t, before.left t h) }

  raising_all : {rest : ℕ → ℕ} → ((t : ℕ) → rest t ≡ 0) → Raising all first rest table → (t : ℕ) → t < term_limit
      → entry_of table t ≡ max (entry_of first t) (all t)
  raising_all none before t h = omega (arith, none t, before.left t h)

-- ---- the cells of one message

abbrev pub Cells : List ℕ → List ℕ → ℕ → List ℕ → Type 0
Cells cs first i table = Raising (λ t. highest t cs) first (λ t. highest t (drop i cs)) table

-- what one cell has of a term
abbrev has : ℕ → ℕ → ℕ
has c t = cond (eqb (cell_term c) t) (cell_impact c) 0

module _ (cs : List ℕ) {first table : List ℕ} (i : ℕ) where
  pub cells_next : {c v : ℕ} → i < length cs → get_or cs i 0 ≡ c → cell_term c < length table → v ≡ max (entry_of table (cell_term c)) (cell_impact c)
      → Cells cs first i table → Cells cs first (i + 1) (set table (cell_term c) v)
  unfolding highest
  cells_next {c} {v} h e long put =
      let n : suc i ≡ i + 1 = omega arith in
      raising_more (has c) (λ t. highest t (drop (i + 1) cs))
      (λ t. ap (highest t) (drop-cons cs i 0 h ∙ ap₂ (λ (y k : ℕ). y ∷ drop k cs) e n))
      (λ t l. grind (arith, common_steps, nat_tests))

  pub cells_end : length cs ≤ i → Cells cs first i table → Raised cs first table
  unfolding highest
  cells_end h before = record { is = raising_all (λ t. ap (highest t) (drop_of_length-le cs h)) before }

-- ---- the messages from slot j on, around the ring

abbrev pub Slots : List ℕ → (o n : ℕ) → List ℕ → (j left : ℕ) → List ℕ → Type 0
Slots w o n first j left table = Raising (λ t. greatest t (window w o n)) first (λ t. greatest t (window w j left)) table

module _ (w : List ℕ) (o n : ℕ) {first table : List ℕ} (j left : ℕ) where
  pub slots_next : {table' : List ℕ} → 0 < left → Raised (slot w j).cells table table' → Slots w o n first j left table
      → Slots w o n first (next j) (left - 1) table'
  unfolding greatest
  slots_next some step =
      raising_more (λ t. highest t (slot w j).cells) (λ t. greatest t (window w (next j) (left - 1)))
      (λ t. ap (λ (js : List ℕ). greatest t (map (slot w) js)) (ring_step j left some))
      step.is

  pub slots_end : left ≤ 0 → Slots w o n first j left table → RaisedBy (window w o n) first table
  unfolding greatest
  slots_end none before = record { is = raising_all (λ t. ap (λ (js : List ℕ). greatest t (map (slot w) js)) (ring_none j left none)) before }

-- from a table of zeros on
pub table_of : {xs : List Slot} {table : List ℕ} → RaisedBy xs (replicate term_limit 0) table → TableOf xs table
table_of {xs} raised = record {
  is = λ t h. raised.is t h ∙ ap (λ (n : ℕ). max n (greatest t xs)) (get_or-replicate term_limit t 0 0 h) ∙ zero-max (greatest t xs);
}

-- slots that aren't live add nothing
pub greatest_live : (w js : List ℕ) (t : ℕ) → greatest t (map (slot w) (live w js)) ≡ greatest t (map (slot w) js)
unfolding live select greatest highest
greatest_live w [] t = refl
greatest_live w (j ∷ js) t = let ih = greatest_live w js t in let silent = silent_cells w j in grind (arith, nat_tests)

-- ---- of cells that rise only one has a term

highest_missing : (t : ℕ) (cs : List ℕ) → ((i : ℕ) → i < length cs → cell_term (get_or cs i 0) ≡ t → ⊥) → highest t cs ≡ 0
unfolding highest
highest_missing t [] h = refl
highest_missing t (c ∷ cs) h = rw (ne_eqb (cell_term c) t (h 0 (omega arith)), highest_missing t cs (λ i l. h (suc i) (omega arith))) refl

pub highest_lookup : (t : ℕ) (cs : List ℕ) → RisingCells cs → highest t cs ≡ lookup t cs
unfolding highest lookup
highest_lookup t [] r = refl
highest_lookup t (c ∷ cs) r =
    let ih = highest_lookup t cs (λ i j l k. r (suc i) (suc j) (omega arith) (omega arith)) in
    let none : cell_term c ≡ t → highest t cs ≡ 0 = λ e. highest_missing t cs (λ i l z. omega (arith, r 0 (suc i) (omega arith) (omega arith))) in
    grind (arith, nat_tests)
