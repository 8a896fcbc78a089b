-- `entry` meets its contract. Assumes nothing.
use native.Mathlib.Omega.{arith}
use Rattle.memory.specs.Words.{words}
use Rattle.memory.proofs.WordLaws.{words_length}
use Rattle.query.proofs.PlaceLaws.{entry_is}
use Rattle.query.proofs.entry.Goals as goal

pub returns : goal.returns
returns c =
    let a = c.args in
    entry_is (words a.state.now) a.q (omega (arith, words_length a.state.now)) (omega arith) (omega arith) c.get.ensures c.get-2.ensures
