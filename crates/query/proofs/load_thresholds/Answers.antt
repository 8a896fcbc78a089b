-- `load_thresholds` meets its contract. Assumes nothing.
use native.Mathlib.Omega.{arith}
use Rattle.query.proofs.FillLaws.{filled_all}
use Rattle.query.proofs.QueryLaws.{loaded_thresholds}
use Rattle.memory.specs.Words.{words}
use Rattle.memory.proofs.WordLaws.{words_length}
use Rattle.query.proofs.load_thresholds.Goals as goal

pub returns : goal.returns
returns c =
    let a = c.args in
    let l = words_length a.state.now in
    loaded_thresholds (words a.state.now) a.q (omega arith) (filled_all (omega arith) c.load-words.ensures c.loop-i.invariant)
