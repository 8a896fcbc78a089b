-- `least` meets its contract. Assumes nothing.
use native.Mathlib.Omega.{arith}
use Rattle.memory.specs.Words.{words}
use Rattle.memory.proofs.WordLaws.{words_length}
use Rattle.query.proofs.PlaceLaws.{least_full}
use Rattle.query.proofs.least.Goals as goal

pub returns : goal.returns
returns c =
    let a = c.args in
    least_full (words a.state.now) a.q (omega (arith, words_length a.state.now)) (omega arith) c.listed-count.ensures.1
    (omega (arith, c.get.ensures)) (omega arith) c.get-2.ensures
