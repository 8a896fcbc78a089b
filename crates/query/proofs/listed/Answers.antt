-- `listed` meets its contract. Assumes nothing.
use native.Mathlib.Omega.{arith}
use Rattle.memory.specs.Words.{words}
use Rattle.memory.proofs.WordLaws.{words_length}
use Rattle.query.proofs.PlaceLaws.{keys_length}
use Rattle.query.proofs.listed.Goals as goal

pub returns : goal.returns
returns c =
    let a = c.args in
    let entries = keys_length (words a.state.now) a.q (omega (arith, words_length a.state.now)) (omega arith) in
    (omega arith, omega (arith, c.get-count.ensures))
