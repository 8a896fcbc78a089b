-- A display's state and buffers are small enough. The statement is in specs/Sizes.antt. Assumes nothing.
use Prim.Native.Nat.{◌*◌}
use native.Mathlib.Omega.{arith}
use lib.ListN.{length-map}
use borrow.Author.Tests.{le-leb}
use Rattle.wire.specs.Field.{total}
use Rattle.paper.specs.Rank.{line, postings}
use Rattle.paper.specs.Log.{in_force_now}
use Rattle.paper.specs.Screen.{most_screen_lines, screen_line_length, judge_screen}
use Rattle.paper.proofs.FrameLaws.{shape_valid, encode_shape, encode_most}
use Rattle.paper.proofs.RankLaws.{postings_length}
use Rattle.paper.proofs.WindowLaws.{in_force_most}
use Rattle.fennelrake.specs.Sizes.{screen_room, Sizes}

pub sizes : Sizes
unfolding total judge_screen
sizes = record {
  frames = λ bytes f b e. rw (encode_shape bytes f b e) (encode_most f (shape_valid bytes f e));
  postings = λ log t most.
      let all = in_force_most log.N log.T log.clock log.messages in
      omega (arith, length-map (postings t (in_force_now log)) line, postings_length t (in_force_now log));
  screens = λ B few. rw (le-leb B most_screen_lines few, le-leb (screen_line_length * B) screen_room (omega arith));
  within = omega arith;
}
