-- `fennelrake_search` meets its contract. Assumes nothing.
use Prim.Native.Nat.{ℕ, ◌≤◌}
use native.Mathlib.Omega.{arith}
use mathlib.Core.Path.{◌≡◌, refl, sym, ap, ◌∙◌}
use mathlib.Core.List.{List}
use lib.ListN.{length, take}
use lib.Seq.{length-take-le}
use borrow.Author.Rules.{rules}
use Rattle.paper.specs.Frame.{most_listed}
use Rattle.memory.specs.Words.{put_big}
use Rattle.memory.proofs.WordLaws.{put_big_length}
use Rattle.fennelrake.specs.Entry.{list_answer, search_answer}
use Rattle.fennelrake.proofs.AnswerLaws.{search_accepted}
use Rattle.fennelrake.proofs.fennelrake_search.Goals as goal

-- the part that is lent is as long as a list's answer
part_long : (a a₁ : List ℕ) (at read : ℕ) → a₁ ≡ put_big a at read → search_answer ≤ length a → length (take list_answer a₁) ≡ list_answer
part_long a a₁ at read e h = length-take-le list_answer a₁ (omega (arith, ap length e ∙ put_big_length a at read))

pub slice_bounds-put_list-end-in-Ok : goal.slice_bounds-put_list-end-in-Ok
slice_bounds-put_list-end-in-Ok c = sym (part_long _ _ _ _ c.put_big.ensures (omega arith))

pub put_list-requires : goal.put_list-requires
put_list-requires c =
    (part_long _ _ _ _ c.put_big.ensures (omega arith), (rw c.in-Ok.is at c.search.ensures.0).most)

pub returns-in-Ok : goal.returns-in-Ok
returns-in-Ok c = (
  search_accepted c.put_list.new.answer _ c.put_big.new.s c.in-Ok.searched (omega arith) (search rules) c.put_big.ensures
      (omega (arith, part_long _ _ _ _ c.put_big.ensures (omega arith))) (search rules) (search rules) c.put_list.ensures
      (rw c.in-Ok.is at c.search.ensures.0),
  refl,
)
