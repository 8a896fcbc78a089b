-- `update_all` meets its contract. Assumes nothing.
use Rattle.memory.specs.Words.{words}
use Rattle.window.proofs.TableLaws.{table_of}
use Rattle.query.specs.Move.{in_slots}
use Rattle.engine.proofs.ArrivingLaws.{table_leaving}
use Rattle.engine.proofs.update_all.Goals as goal

pub returns : goal.returns
returns c =
    let a = c.args in
    record {
      coming = _;
      going = _;
      tables = record {
        new = table_of c.raise_newest.ensures.1;
        old = table_leaving (words a.state.now) (in_slots a.moved) c.raise_all.ensures.1 c.silence.ensures.raised.1;
      };
      silent = _;
      silenced = c.silence.ensures.silenced;
      passed = c.pass.ensures;
    }
