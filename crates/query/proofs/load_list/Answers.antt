-- `load_list` meets its contract. Assumes nothing.
use native.Mathlib.Omega.{arith}
use Rattle.memory.specs.Words.{words}
use Rattle.memory.proofs.WordLaws.{words_length}
use Rattle.query.proofs.PlaceLaws.{keys_length}
use Rattle.query.proofs.load_list.Goals as goal

pub returns : goal.returns
returns c =
    let a = c.args in
    let l = keys_length (words a.state.now) a.q (omega (arith, words_length a.state.now)) (omega arith) in
    record {
      count_most = omega arith;
      count_is = λ h. omega arith;
      serials = c.load-serials.ensures;
      keys = c.load-keys.ensures;
    }
