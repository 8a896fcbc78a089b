-- What the bytes lent for an answer change in what the paper says of a call: enough of them nothing, and too few make it a refusal by 12.
-- Assumes nothing.
use Prim.Native.Nat.{ℕ, ◌≤◌, ◌<◌}
use mathlib.Core.Path.{◌≡◌, ap}
use mathlib.Core.Bool.{Bool, false, cond, and-false}
use mathlib.Core.List.{List, []}
use lib.Dec.{eqb}
use borrow.Author.Tests.{le-leb, lt-leb}
use Rattle.paper.specs.Frame.{shape}
use Rattle.paper.specs.Rank.{Line}
use Rattle.paper.specs.Layout.{state_length}
use Rattle.paper.specs.Log.{Log, Call, lent, judge_shape, judge, accept_shape, after, departures_shape, departures}
use Rattle.paper.specs.Log.{in_force_now, has_serial, is_in_use, query_at, judge_list, list_of, listed, seen}
use Rattle.paper.specs.Search.{Outcome, asked, refusal_of, query_in, nothing, found_for, judge_search, found}
use Rattle.paper.specs.Closeness.{Closeness, pairs_of, judge_closeness, unasked, closeness_to, closeness_in}
use Rattle.paper.specs.Demand3.{Keeping, Reply, marks_shape, reply_to, marked_shape, marked_by}

module _ (needed state output : ℕ) where
  lent_enough : needed ≤ output → lent state output needed ≡ lent state 0 0
  lent_enough h = rw (le-leb needed output h)

  lent_short : output < needed → lent state output needed ≡ false
  lent_short h = rw (lt-leb needed output h) (and-false (eqb state state_length))

-- ---- a frame

module _ (needed : ℕ) (log : Log) (c : Call) where
  -- the same call with nothing to write into
  abbrev bare : Call
  bare = record { bytes = c.bytes; state = c.state; output = 0 }

  -- the number of a call that was lent so much or not
  abbrev judged_by : Bool → ℕ
  judged_by t = cond t (judge_shape log (shape c.bytes)) 12

  -- the reply to it and the log after it, for its number
  abbrev reply_by : Keeping → ℕ → Reply
  reply_by kept n = record {
    number = n;
    marks = cond (eqb n 0) (marks_shape log kept (shape c.bytes)) 0;
    departures = cond (eqb n 0) (departures_shape log (shape c.bytes)) 0;
  }

  abbrev after_by : ℕ → Log
  after_by n = cond (eqb n 0) (accept_shape log (shape c.bytes)) log

  module _ (h : needed ≤ c.output) where
    judge_enough : judge needed log c ≡ judge 0 log bare
    unfolding judge
    judge_enough = ap judged_by (lent_enough needed c.state c.output h)

    pub after_enough : after needed log c ≡ after 0 log bare
    unfolding after
    after_enough = ap after_by judge_enough

    pub reply_enough : (kept : Keeping) → reply_to needed log kept c ≡ reply_to 0 log kept bare
    unfolding reply_to departures
    reply_enough kept = ap (reply_by kept) judge_enough

    pub marked_enough : (kept : Keeping) (q : ℕ) → marked_by needed log kept c q ≡ marked_by 0 log kept bare q
    unfolding marked_by
    marked_enough kept q = ap (λ (n : ℕ). cond (eqb n 0) (marked_shape log kept (shape c.bytes) q) false) judge_enough

  module _ (h : c.output < needed) where
    judge_short : judge needed log c ≡ 12
    unfolding judge
    judge_short = ap judged_by (lent_short needed c.state c.output h)

    pub after_short : after needed log c ≡ log
    unfolding after
    after_short = ap after_by judge_short

    pub reply_short : (kept : Keeping) → reply_to needed log kept c ≡ record { number = 12; marks = 0; departures = 0 }
    unfolding reply_to departures
    reply_short kept = ap (reply_by kept) judge_short

-- ---- a list reading

module _ (needed : ℕ) (log : Log) (state output n : ℕ) where
  abbrev list_by : Bool → ℕ
  list_by t = cond t (cond (is_in_use (query_at log n)) 0 10) 12

  abbrev lines_by : ℕ → List Line
  lines_by r = cond (eqb r 0) (list_of (seen log) (query_at log n)) []

  pub list_enough : needed ≤ output → judge_list needed log state output n ≡ judge_list 0 log state 0 n
  unfolding judge_list
  list_enough h = ap list_by (lent_enough needed state output h)

  pub lines_enough : needed ≤ output → listed needed log state output n ≡ listed 0 log state 0 n
  unfolding listed
  lines_enough h = ap lines_by (list_enough h)

  pub list_short : output < needed → judge_list needed log state output n ≡ 12
  unfolding judge_list
  list_short h = ap list_by (lent_short needed state output h)

  pub lines_short : output < needed → listed needed log state output n ≡ []
  unfolding listed
  lines_short h = ap lines_by (list_short h)

-- ---- a search

module _ (needed : ℕ) (log : Log) (bytes : List ℕ) (state output : ℕ) where
  abbrev search_by : Bool → ℕ
  search_by t = cond t (refusal_of (asked bytes)) 12

  abbrev found_by : ℕ → Outcome
  found_by r = cond (eqb r 0) (found_for log (query_in (asked bytes))) nothing

  pub search_enough : needed ≤ output → judge_search needed bytes state output ≡ judge_search 0 bytes state 0
  unfolding judge_search
  search_enough h = ap search_by (lent_enough needed state output h)

  pub found_enough : needed ≤ output → found needed log bytes state output ≡ found 0 log bytes state 0
  unfolding found
  found_enough h = ap found_by (search_enough h)

  pub search_short : output < needed → judge_search needed bytes state output ≡ 12
  unfolding judge_search
  search_short h = ap search_by (lent_short needed state output h)

  pub found_short : output < needed → found needed log bytes state output ≡ nothing
  unfolding found
  found_short h = ap found_by (search_short h)

-- ---- a closeness

module _ (needed : ℕ) (log : Log) (state output serial n : ℕ) where
  abbrev compare_by : Bool → ℕ
  compare_by t = cond t (cond (has_serial serial (in_force_now log)) (cond (is_in_use (query_at log n)) 0 10) 13) 12

  abbrev closeness_by : ℕ → Closeness
  closeness_by r = cond (eqb r 0) (closeness_to (query_at log n) (pairs_of serial (in_force_now log))) unasked

  pub compare_enough : needed ≤ output → judge_closeness needed log state output serial n ≡ judge_closeness 0 log state 0 serial n
  unfolding judge_closeness
  compare_enough h = ap compare_by (lent_enough needed state output h)

  pub closeness_enough : needed ≤ output → closeness_in needed log state output serial n ≡ closeness_in 0 log state 0 serial n
  unfolding closeness_in
  closeness_enough h = ap closeness_by (compare_enough h)

  pub compare_short : output < needed → judge_closeness needed log state output serial n ≡ 12
  unfolding judge_closeness
  compare_short h = ap compare_by (lent_short needed state output h)

  pub closeness_short : output < needed → closeness_in needed log state output serial n ≡ unasked
  unfolding closeness_in
  closeness_short h = ap closeness_by (compare_short h)
