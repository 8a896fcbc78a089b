-- `Impact::of` meets its contract. Assumes nothing.
use Prim.Native.Nat.{◌*◌, ◌≤◌, max}
use native.Mathlib.Nat.{le_antisymm, le_trans, mul-le-mul, min-le_right, le-div_iff_mul-le}
use native.Mathlib.Omega.{arith}
use mathlib.Core.Path.{sym}
use borrow.Author.Rules.{rules}
use Rattle.paper.specs.Impact.{top}
use Rattle.paper.proofs.ImpactLaws.{impact_meets}
use Rattle.impact.specs.Table.{reach}
use Rattle.impact.proofs.Places.{unit_most, between, place_found, top_of_none}
use Rattle.impact.proofs.Impact.of.Goals as goal

-- the parts of a count are at most 255 times the scale's
parts_most : (c : goal.After-unit) → c.args.count * c.unit.result ≤ 255 * reach
parts_most c =
    let u = c.unit.result in
    let h : u ≤ reach = unit_most (max c.args.squares 1) u (omega arith) (rw c.max.ensures at c.unit.ensures.0) in
    mul-le-mul {n₂ = 255} {m₂ = reach} (omega arith) h

pub returns : goal.returns
returns c =
    let s = c.args in
    let b = between s.count s.squares c.unit.result (omega arith) c.max.ensures c.unit.ensures c.place_of-low.ensures c.place_of-high.ensures in
    le_antisymm b.0 (le_trans b.1 (omega arith))

pub overflow_mul-parts : goal.overflow_mul-parts
overflow_mul-parts c = let h = parts_most c in search rules

pub returns-then-squares-eq0 : goal.returns-then-squares-eq0
returns-then-squares-eq0 c = sym (top_of_none c.args.count c.args.squares (omega arith))

pub place-requires : goal.place-requires
place-requires c =
    let s = c.args in
    let b = between s.count s.squares c.unit.result (omega arith) c.max.ensures c.unit.ensures c.place_of-low.ensures c.place_of-high.ensures in (
      omega arith,
      rw c.place_of-high.ensures (min-le_right _ top),
      rw c.most_square-most.ensures (le_trans (mul-le-mul b.0 b.0) ((le-div_iff_mul-le (omega arith)).1 (impact_meets s.count s.squares))),
    )

pub returns-then-low-high : goal.returns-then-low-high
returns-then-low-high c =
    let s = c.args in
    let b = between s.count s.squares c.unit.result (omega arith) c.max.ensures c.unit.ensures c.place_of-low.ensures c.place_of-high.ensures in
    let r = place-requires c.before in
    place_found _ _ _ _ _ (omega arith) c.most_square-most.ensures r.1 b.1 c.place.ensures
