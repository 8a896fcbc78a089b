-- `put_list` meets its contract. Assumes nothing.
use borrow.Author.Rules.{rules}
use Rattle.fennelrake.proofs.AnswerLaws.{list_words}
use Rattle.fennelrake.proofs.put_list.Goals as goal

pub returns : goal.returns
returns c = list_words c.args.answer.now (search rules) (search rules) c.put_big.ensures c.store_big.ensures c.store_big-2.ensures
