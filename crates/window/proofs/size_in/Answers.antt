-- `size_in` meets its contract. Assumes nothing.
use native.Mathlib.Omega.{arith}
use Rattle.memory.specs.Words.{words}
use Rattle.memory.proofs.WordLaws.{words_length}
use Rattle.window.proofs.SlotLaws.{slot_size}
use Rattle.window.proofs.size_in.Goals as goal

pub returns-clause-cells : goal.returns-clause-cells
returns-clause-cells c =
    let s = c.args.state.now in let l = words_length s in omega (arith, slot_size (words s) c.args.j (omega arith) (omega arith))
