-- "State and buffers of a display stay within 65,536 bytes." The theorem is in proofs/Sizes.antt. Assumes nothing.
use Rattle.std.specs.Prelude.{ℕ, ◌+◌, ◌*◌, ◌≤◌, ◌≡◌, List, length}
use Rattle.wire.specs.Bits.{Bytes}
use Rattle.paper.specs.Frame.{Frame, shape, long_row, widths, count_width, most_pairs, bits_of, bytes_for}
use Rattle.paper.specs.Frame.Shape.{accepted}
use Rattle.paper.specs.Window.{most_messages}
use Rattle.paper.specs.Layout.{state_length}
use Rattle.paper.specs.Log.{Log, posting_length, posted}
use Rattle.paper.specs.Screen.{most_screen_lines, screen_line_length, judge_screen}
use Rattle.fennelrake.specs.Entry.{frame_answer, list_answer, search_answer, closeness_answer}

-- room for every frame that is accepted: a long message of the most pairs is the longest
abbrev pub frame_room : ℕ
frame_room = bytes_for (bits_of (widths long_row) count_width most_pairs)

-- room for every reading of postings: the most messages in force, which all have the term
abbrev pub postings_room : ℕ
postings_room = posting_length * most_messages

-- room for every screen that isn't refused for its lines
abbrev pub screen_room : ℕ
screen_room = screen_line_length * most_screen_lines

pub record Sizes : Type 0 where
  pub frames : (bytes : List ℕ) (f : Frame) → Bytes bytes → shape bytes ≡ accepted f → length bytes ≤ frame_room
  pub postings : (log : Log) (t : ℕ) → log.N ≤ most_messages → posting_length * length (posted log t) ≤ postings_room
  pub screens : (B : ℕ) → B ≤ most_screen_lines → judge_screen B state_length screen_room ≡ 0
  pub within : state_length + frame_room + frame_answer + list_answer + search_answer + closeness_answer + postings_room + screen_room ≤ 65536
