-- `Closeness::of` meets its contract. Assumes nothing.
use Prim.Native.Nat.{◌^◌}
use native.Mathlib.Omega.{arith}
use borrow.Author.Rules.{rules}
use Rattle.paper.specs.Frame.{count_width}
use Rattle.rank.specs.Weights.{most_weight, Below}
use Rattle.rank.proofs.SumLaws.{sum_most}
use Rattle.closeness.proofs.CloseLaws.{compared}
use Rattle.closeness.proofs.Closeness.of.Goals as goal

pub divided-requires : goal.divided-requires
divided-requires c =
    let q = c.args.query in
    let below = c.requires.1 in
    let counts_below : Below q.n (2 ^ count_width) c.counts_in-counts.result = λ i h. omega (arith, c.counts_in-counts.ensures i h) in
    let shared = sum_most 255 q.n q.weights c.counts_in-counts.result below counts_below in
    let squared = sum_most most_weight q.n q.weights q.weights below below in
    (omega (arith, c.weighted-shared.ensures), c.squares_in-squares.ensures.1, omega (arith, c.weighted.ensures))

pub returns : goal.returns
returns c =
    let q = c.args.query in
    compared _ q c.counts_in-counts.result (search rules) (search rules) c.counts_in-counts.ensures c.divided.result
    (rw (← c.weighted-shared.ensures, ← c.squares_in-squares.ensures.0, ← c.weighted.ensures) c.divided.ensures)
