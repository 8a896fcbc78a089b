-- `counts_in`'s loops. Assumes nothing.
use Prim.Native.Nat.{ℕ, ◌<◌}
use mathlib.Core.Path.{◌≡◌}
use lib.ListN.{length, get_or}
use Rattle.paper.specs.Frame.{most_terms}
use Rattle.memory.specs.Words.{words}
use Rattle.window.specs.Slot.{slot}
use Rattle.closeness.specs.Post.{count_among}
use Rattle.closeness.proofs.counts_in.Given as goal

abbrev pub invariant-loop-i : goal.invariant-loop-i
invariant-loop-i l = record {
  long : length l.counts ≡ most_terms;
  filled : (p : ℕ) → p < l.i → get_or l.counts p 0 ≡ count_among (slot (words l.state) l.j).cells (get_or l.terms p 0);
}
