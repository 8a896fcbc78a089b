-- Every row of the table of starred cases holds. Assumes nothing.
use mathlib.Core.Path.{◌≡◌, refl}
use mathlib.Core.List.{map}
use Rattle.wire.specs.Bits.{odd, bits, num, unpack, pack}
use Rattle.wire.specs.Field.{field, total, spell, scan}
use Rattle.paper.specs.Frame.{row_of, pair_widths, pair_values, written, encode, frame_of, pairs_at, positive, rises, grades_known, check, shape_of_kind, shape}
use Rattle.paper.specs.Window.{in_force, noting, departing}
use Rattle.paper.specs.Impact.{greatest, impact, squares, count_of, impact_in, score_by}
use Rattle.paper.specs.Sort.{select, insert, inserts}
use Rattle.paper.specs.Rank.{ranking, postings}
use Rattle.paper.specs.Log.{has_serial, judge, accept, after, departs, departures, judge_list, seen, listed}
use Rattle.paper.specs.Threshold.{threshold_sum, last_score}
use Rattle.paper.specs.Search.{count_in, products, highest, highest_at, without, ends, search_on, search, asked, judge_search, found}
use Rattle.paper.specs.Closeness.{closeness, pairs_of, judge_closeness, closeness_in}
use Rattle.paper.specs.Screen.{round, rounds, longest, screen, upward, judge_screen, screen_in}
use Rattle.paper.specs.Cases.{table, computed, expected}

pub cases_hold : map computed table ≡ map expected table
unfolding table odd bits num unpack pack field total spell scan row_of pair_widths pair_values written encode frame_of pairs_at positive rises
    grades_known check shape_of_kind shape in_force noting departing greatest impact squares count_of impact_in score_by select insert inserts ranking
    postings has_serial judge accept after departs departures judge_list seen listed threshold_sum last_score count_in products highest highest_at
    without ends search_on search asked judge_search found closeness pairs_of judge_closeness closeness_in round rounds longest screen upward
    judge_screen screen_in
cases_hold = refl
