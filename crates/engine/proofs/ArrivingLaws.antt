-- The slot of one message, and tables raised to what the messages of some slots have. Assumes nothing.
use Prim.Native.Nat.{ℕ, ◌≤◌, ◌<◌, max}
use native.Mathlib.Omega.{arith}
use mathlib.Core.Path.{◌≡◌, sym, ap, subst}
use mathlib.Core.Bool.{Bool, cond}
use mathlib.Core.List.{List, [], ◌∷◌, ◌++◌, map, map-append}
use lib.ListN.{replicate}
use borrow.Author.Tests.{lt-ltb, le-ltb}
use Rattle.paper.specs.Layout.{slots}
use Rattle.window.specs.Slot.{Slot, slot, ring, window}
use Rattle.window.specs.Table.{term_limit, greatest, RaisedBy, TableOf}
use Rattle.window.proofs.TableLaws.{table_of}
use Rattle.query.specs.Move.{Move}
use Rattle.query.specs.Post.{arriving, leaving}

pub arriving_one : (k : ℕ) → k < slots → arriving k ≡ k ∷ []
arriving_one k h = ap (λ (b : Bool). cond {A = List ℕ} b (k ∷ []) []) (lt-ltb k slots h)

arriving_none : (k : ℕ) → slots ≤ k → arriving k ≡ []
arriving_none k h = ap (λ (b : Bool). cond {A = List ℕ} b (k ∷ []) []) (le-ltb k slots h)

module _ (w : List ℕ) (k : ℕ) {table table' : List ℕ} where
  pub raised_one : k < slots → RaisedBy (window w k 1) table table' → RaisedBy (map (slot w) (arriving k)) table table'
  unfolding ring
  raised_one h = subst (λ (js : List ℕ). RaisedBy (map (slot w) js) table table') (sym (arriving_one k h))

  pub raised_none : slots ≤ k → table' ≡ table → RaisedBy (map (slot w) (arriving k)) table table'
  unfolding greatest
  raised_none h e = rw (arriving_none k h, e) (record { is = λ t l. omega arith })

-- ---- the messages that leave: those of some slots, and then one more

greatest_append : (t : ℕ) (xs ys : List Slot) → greatest t (xs ++ ys) ≡ max (greatest t xs) (greatest t ys)
unfolding greatest
greatest_append t [] ys = omega arith
greatest_append t (x ∷ xs) ys = let ih = greatest_append t xs ys in omega arith

pub table_leaving : (w : List ℕ) (m : Move) {some all : List ℕ} → RaisedBy (window w m.gone m.departed) (replicate term_limit 0) some
    → RaisedBy (map (slot w) (arriving m.cancelled)) some all → TableOf (map (slot w) (leaving m)) all
table_leaving w m first then =
    let xs = window w m.gone m.departed in
    let ys = map (slot w) (arriving m.cancelled) in
    let both = map-append (slot w) (ring m.gone m.departed) (arriving m.cancelled) in
    table_of (record { is = λ t h. omega (arith, first.is t h, then.is t h, greatest_append t xs ys, ap (greatest t) both) })
