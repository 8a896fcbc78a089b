-- `put_line` meets its contract. Assumes nothing.
use native.Mathlib.Omega.{arith}
use Rattle.screen.proofs.LineLaws.{line_bytes_lem}
use Rattle.screen.proofs.put_line.Goals as goal

pub returns : goal.returns
returns c =
    let a = c.args in
    line_bytes_lem a.out.now a.number (omega arith) c.put_entry.ensures
