-- `put_message` meets its contract. Assumes nothing.
use native.Mathlib.Omega.{arith}
use mathlib.Core.Path.{◌≡◌}
use lib.ListN.{length}
use borrow.Author.Rules.{rules}
use Rattle.paper.specs.Write.{side_by_side}
use Rattle.paper.proofs.FrameLaws.{level_of}
use Rattle.paper.proofs.WriteLaws.{length_side}
use Rattle.window.proofs.SlotLaws.{message_written}
use Rattle.window.proofs.put_message.Goals as goal

pub returns : goal.returns
returns c =
    let all : length (side_by_side c.args.m c.args.terms c.args.counts) ≡ c.args.m = length_side _ _ _ (omega arith) (omega arith) in
    let grade = level_of c.args.urgency (omega arith) in
    message_written _ _ _ _ _ _ _ (omega arith) (omega arith) (omega arith) all (omega arith) (search rules) (search rules) c.put.ensures
    c.put-2.ensures c.put-3.ensures c.put_cells.ensures
