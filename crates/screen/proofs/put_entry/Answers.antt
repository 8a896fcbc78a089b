-- `put_entry` meets its contract. Assumes nothing.
use native.Mathlib.Omega.{arith}
use Rattle.screen.proofs.LineLaws.{entry_bytes}
use Rattle.screen.proofs.put_entry.Goals as goal

pub returns : goal.returns
returns c =
    let a = c.args in
    entry_bytes a.out.now a.serial a.score (omega arith) c.put_big.ensures c.put_big-2.ensures
