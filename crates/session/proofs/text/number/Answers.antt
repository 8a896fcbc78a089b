-- `number` meets its contract. Assumes nothing.
use native.Mathlib.Omega.{arith}
use mathlib.Core.Path.{◌∙◌}
use Rattle.session.proofs.TextLaws.{put_same, fewest_most, spelled_fewest}
use Rattle.session.proofs.text.number.Goals as goal

pub returns-clause-put : goal.returns-clause-put
returns-clause-put c =
    let e = c.decimal-k.ensures in
    let n = c.args.n in
    let k = c.decimal-k.result in
    let m = fewest_most 10 1 n k 20 (omega arith) e.len (omega arith) (omega arith) in
    put_same (e.digits ∙ spelled_fewest k 20 n e.len m) c.put.ensures
