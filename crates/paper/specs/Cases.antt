-- The starred cases of document 01, "Worked passages", under document 02's age rule (T-01); C8, which moves with that rule; cancellations (T-02);
-- urgencies (T-04); searches (T-05); longer messages (T-06); closeness (T-07); screens (T-08); and rows for the order of the refusals 1 to 6 and
-- 14: as one table.
-- proofs/CasesHold.antt has its one theorem. Assumes nothing.
use Rattle.std.specs.Prelude.{ℕ, suc, List, [], ◌∷◌, ◌++◌, map, take, replicate}
use Rattle.paper.specs.Frame.{Pair, Frame, encode, shape}
use Rattle.paper.specs.Frame.Frame.{message, tick, register, unregister, cancel}
use Rattle.paper.specs.Frame.Urgency.{routine, important, vital}
use Rattle.paper.specs.Frame.Form.{ungraded, graded, long}
use Rattle.paper.specs.Impact.{impact_in}
use Rattle.paper.specs.Rank.{Line, lines}
use Rattle.paper.specs.Layout.{state_length}
use Rattle.paper.specs.Log.{Log, Call, fresh, judge, after, departures, listed}
use Rattle.paper.specs.Search.{Outcome, refusal_of, judge_search, found}
use Rattle.paper.specs.Closeness.{Closeness, judge_closeness, closeness_in}
use Rattle.paper.specs.Screen.{ScreenLine, judge_screen, screen_in}

pub data Case : Type 0 where
  -- the counts of a message's terms; the impact of each
  impacts : List ℕ → List ℕ → Case
  -- a frame; its bytes
  spelling : Frame → List ℕ → Case
  -- bytes; their number by 1 to 6 and 14, 0 for a frame
  judging : List ℕ → ℕ → Case
  -- N, T and frames; after each its number, its departures, and serial and score of each entry of query 0's list
  passage : ℕ → ℕ → List (List ℕ) → List (List ℕ) → Case
  -- N, T and frames, and the bytes of a search after them; its number, its postings read, and serial and score of each entry found
  searching : ℕ → ℕ → List (List ℕ) → List ℕ → List ℕ → Case
  -- N, T and frames, and a serial and a query's number after them; the number of the closeness, its quotient and its remainder
  comparing : ℕ → ℕ → List (List ℕ) → ℕ → ℕ → List ℕ → Case
  -- N, T and frames, and the lines and the bytes of output of a screen after them; its number, and query, serial and score of each line
  screening : ℕ → ℕ → List (List ℕ) → ℕ → ℕ → List ℕ → Case

-- ---- what the definitions give for a case

-- pairs of the terms n, n + 1, .. with these counts
abbrev pub numbered : ℕ → List ℕ → List Pair
numbered n [] = []
numbered n (f ∷ fs) = record { term = n; amount = f } ∷ numbered (suc n) fs

abbrev pub impacts_of : List Pair → List ℕ
impacts_of ps = map (λ p. impact_in ps p.term) ps

abbrev pub call : List ℕ → Call
call bytes = record { bytes = bytes; state = state_length; output = 0 }

abbrev pub flat : List Line → List ℕ
flat [] = []
flat (l ∷ ls) = l.serial ∷ l.score ∷ flat ls

-- query 0's list after a frame
abbrev pub list_after : Log → List ℕ
list_after log = flat (listed 0 log state_length 0 0)

abbrev pub run : Log → List (List ℕ) → List (List ℕ)
run log [] = []
run log (b ∷ bs) =
    (judge 0 log (call b) ∷ departures 0 log (call b) ∷ list_after (after 0 log (call b))) ∷ run (after 0 log (call b)) bs

-- a log after frames
abbrev pub fed : Log → List (List ℕ) → Log
fed log [] = log
fed log (b ∷ bs) = fed (after 0 log (call b)) bs

abbrev pub told : Outcome → List ℕ
told r = r.read ∷ flat (lines r.list)

abbrev pub compared : Closeness → List ℕ
compared c = c.quotient ∷ c.remainder ∷ []

abbrev pub in_order : List ScreenLine → List ℕ
in_order [] = []
in_order (p ∷ ps) = p.number ∷ p.entry.serial ∷ p.entry.score ∷ in_order ps

abbrev pub computed : Case → List (List ℕ)
computed (impacts fs ws) = impacts_of (numbered 0 fs) ∷ []
computed (spelling f bytes) = encode f ∷ (refusal_of (shape bytes) ∷ []) ∷ []
computed (judging bytes r) = (refusal_of (shape bytes) ∷ []) ∷ []
computed (passage N T frames told) = run (fresh N T) frames
computed (searching N T frames bytes answer) =
    (judge_search 0 bytes state_length 0 ∷ told (found 0 (fed (fresh N T) frames) bytes state_length 0)) ∷ []
computed (comparing N T frames s n answer) =
    let log = fed (fresh N T) frames in
    (judge_closeness 0 log state_length 0 s n ∷ compared (closeness_in 0 log state_length 0 s n)) ∷ []
computed (screening N T frames B output answer) =
    (judge_screen B state_length output ∷ in_order (screen_in B (fed (fresh N T) frames) state_length output)) ∷ []

abbrev pub expected : Case → List (List ℕ)
expected (impacts fs ws) = ws ∷ []
expected (spelling f bytes) = bytes ∷ (0 ∷ []) ∷ []
expected (judging bytes r) = (r ∷ []) ∷ []
expected (passage N T frames told) = told
expected (searching N T frames bytes answer) = answer ∷ []
expected (comparing N T frames s n answer) = answer ∷ []
expected (screening N T frames B output answer) = answer ∷ []

-- ---- the table

abbrev pub at : ℕ → ℕ → Pair
at t n = record { term = t; amount = n }

-- C5, and the frames of C8, C9 and C10
abbrev pub registered : Frame
registered = register 0 0 2 (at 5 1 ∷ at 9 2 ∷ [])

abbrev pub c8 : List (List ℕ)
c8 =
    map encode
    (registered ∷ message 20 2 ungraded (at 5 1 ∷ []) ∷ tick 120 ∷ message 120 2 ungraded (at 5 1 ∷ []) ∷ tick 121 ∷ message 121 2 ungraded (at 5 1 ∷ []) ∷ [])

abbrev pub c9 : List (List ℕ)
c9 = map encode (registered ∷ message 10 1 ungraded (at 5 1 ∷ []) ∷ message 20 2 ungraded (at 5 1 ∷ []) ∷ [])

abbrev pub c10 : List (List ℕ)
c10 =
    map encode
    (registered
    ∷ message 10 1 ungraded (at 5 3 ∷ at 9 4 ∷ [])
    ∷ message 20 2 ungraded (at 5 1 ∷ [])
    ∷ message 30 3 ungraded (at 9 1 ∷ at 40 1 ∷ [])
    ∷ message 40 4 ungraded (at 5 1 ∷ at 6 2 ∷ [])
    ∷ tick 120
    ∷ message 119 9 ungraded (at 5 1 ∷ [])
    ∷ [])

-- The best message cancelled: its serial is free at once, and it leaves for N uncounted. Then 7 before 13, and 13 for one that is past.
abbrev pub cancelled : List (List ℕ)
cancelled =
    map encode
    (registered
    ∷ message 10 1 ungraded (at 5 3 ∷ at 9 4 ∷ [])
    ∷ message 20 2 ungraded (at 5 1 ∷ [])
    ∷ message 30 3 ungraded (at 9 1 ∷ at 40 1 ∷ [])
    ∷ cancel 40 1
    ∷ cancel 40 1
    ∷ message 41 1 ungraded (at 5 1 ∷ [])
    ∷ message 42 4 ungraded (at 9 1 ∷ [])
    ∷ cancel 39 3
    ∷ cancel 131 3
    ∷ tick 142
    ∷ [])

-- Cancelled at 40 message 2, which isn't listed, and at 42 message 3, which is. Message 1 leaves for N since message 2's place stays filled, and neither
-- of the two departs again: 2 leaves for N at 43, 3 is past at 131. Serial 2 is used again. At 43 a cancellation is late, of a serial not in force.
abbrev pub cancelled_unlisted : List (List ℕ)
cancelled_unlisted =
    map encode
    (registered
    ∷ message 10 1 ungraded (at 5 3 ∷ at 9 4 ∷ [])
    ∷ message 20 2 ungraded (at 5 1 ∷ [])
    ∷ message 30 3 ungraded (at 9 1 ∷ at 40 1 ∷ [])
    ∷ cancel 40 2
    ∷ message 41 2 ungraded (at 5 1 ∷ [])
    ∷ cancel 42 3
    ∷ cancel 42 3
    ∷ message 43 4 ungraded (at 9 1 ∷ [])
    ∷ cancel 42 1
    ∷ tick 131
    ∷ cancel 142 2
    ∷ tick 142
    ∷ [])

-- One term, one weight: every score is the same. The last frame has urgency 3 and a count of 0.
abbrev pub urgencies : List (List ℕ)
urgencies =
    map encode
    (register 0 0 2 (at 5 1 ∷ [])
    ∷ message 10 1 (graded vital) (at 5 1 ∷ [])
    ∷ message 20 2 ungraded (at 5 1 ∷ [])
    ∷ message 30 3 (graded important) (at 5 1 ∷ [])
    ∷ message 30 4 (graded routine) (at 5 1 ∷ [])
    ∷ [])
    ++ ((0x60 ∷ 0x00 ∷ 0x00 ∷ 0x00 ∷ 0xa0 ∷ 0x00 ∷ 0x01 ∷ 0xc0 ∷ 0x05 ∷ 0x00 ∷ []) ∷ [])

-- Of a full list the vital one leaves with the frame that brings a routine one of the same score: the important one that wasn't listed takes its place.
-- Then one of a lower score is more urgent than all, and an urgent one is cancelled.
abbrev pub tie_left_out : List (List ℕ)
tie_left_out =
    map encode
    (register 0 0 2 (at 5 1 ∷ [])
    ∷ message 10 1 (graded vital) (at 5 1 ∷ [])
    ∷ message 20 2 (graded important) (at 5 1 ∷ [])
    ∷ message 30 3 (graded important) (at 5 1 ∷ [])
    ∷ message 40 4 ungraded (at 5 1 ∷ [])
    ∷ message 50 5 (graded vital) (at 5 1 ∷ at 6 1 ∷ [])
    ∷ cancel 60 3
    ∷ [])

-- The three kinds of message in one window. The long one of 32 pairs comes into the list as the vital one is cancelled.
abbrev pub longer : List (List ℕ)
longer =
    map encode
    (register 0 0 2 (at 5 1 ∷ [])
    ∷ message 10 1 (long vital) (at 5 1 ∷ [])
    ∷ message 20 2 ungraded (at 5 1 ∷ [])
    ∷ message 30 3 (long routine) (numbered 0 (replicate 32 255))
    ∷ message 30 3 (long routine) (at 5 1 ∷ [])
    ∷ cancel 40 1
    ∷ cancel 40 2
    ∷ [])

-- a search for these terms
abbrev pub ask : ℕ → List Pair → List ℕ
ask k ps = encode (register 0 0 k ps)

-- C10's first five frames
abbrev pub c10_start : List (List ℕ)
c10_start = take 5 c10

-- Term 5 and term 9 come first with the same weight × impact, in two messages, and in one and another.
abbrev pub one_each : List (List ℕ)
one_each = map encode (message 10 1 ungraded (at 5 1 ∷ []) ∷ message 20 2 ungraded (at 9 1 ∷ []) ∷ [])

abbrev pub both_in_one : List (List ℕ)
both_in_one = map encode (message 10 1 ungraded (at 5 1 ∷ at 9 1 ∷ []) ∷ message 20 2 ungraded (at 9 1 ∷ at 40 1 ∷ []) ∷ [])

-- Two postings of one message come before the first of another.
abbrev pub twice_one : List (List ℕ)
twice_one = map encode (message 10 1 ungraded (at 5 1 ∷ at 9 1 ∷ []) ∷ message 20 2 ungraded (at 40 1 ∷ []) ∷ [])

-- Query 0's weights times 3; one count more than that; a term more; no term of it; and the most that counts and weights can be, for query 1. Message 6 is
-- cancelled.
abbrev pub close : List (List ℕ)
close =
    map encode
    (registered
    ∷ register 0 1 1 (numbered 0 (replicate 8 15))
    ∷ message 10 1 ungraded (at 5 3 ∷ at 9 6 ∷ [])
    ∷ message 10 2 ungraded (at 5 3 ∷ at 9 7 ∷ [])
    ∷ message 10 3 ungraded (at 5 1 ∷ at 9 2 ∷ at 40 1 ∷ [])
    ∷ message 10 4 ungraded (at 6 4 ∷ [])
    ∷ message 10 5 (long routine) (numbered 0 (replicate 32 255))
    ∷ message 10 6 ungraded (at 5 1 ∷ at 9 2 ∷ [])
    ∷ cancel 10 6
    ∷ [])

-- Three messages in force after C10's first five frames: two entries for each of the queries 0 and 3, one for 7, and none for 9. Query 8 is dropped.
abbrev pub five_lines : List (List ℕ)
five_lines =
    c10_start
    ++ map encode
    (register 40 9 16 (at 1000 1 ∷ [])
    ∷ register 40 8 16 (at 5 1 ∷ [])
    ∷ register 40 7 1 (at 40 1 ∷ [])
    ∷ register 40 3 3 (at 5 1 ∷ [])
    ∷ unregister 40 8
    ∷ [])

unfoldable pub table : List Case
table =
    -- C1
    impacts (3 ∷ 4 ∷ []) (1200 ∷ 1600 ∷ [])
    -- C2
    ∷ impacts (1 ∷ 1 ∷ []) (1414 ∷ 1414 ∷ [])
    ∷ impacts (1 ∷ 2 ∷ []) (894 ∷ 1788 ∷ [])
    ∷ impacts (255 ∷ []) (2000 ∷ [])
    -- C3
    ∷ impacts
    (1 ∷ 255 ∷ 255 ∷ 255 ∷ 255 ∷ 255 ∷ 255 ∷ 255 ∷ 255 ∷ 255 ∷ 255 ∷ 255 ∷ 255 ∷ 255 ∷ 255 ∷ 255 ∷ [])
    (2 ∷ 516 ∷ 516 ∷ 516 ∷ 516 ∷ 516 ∷ 516 ∷ 516 ∷ 516 ∷ 516 ∷ 516 ∷ 516 ∷ 516 ∷ 516 ∷ 516 ∷ 516 ∷ [])
    -- C4
    ∷ spelling (tick 120) (0x20 ∷ 0x00 ∷ 0x00 ∷ 0x07 ∷ 0x80 ∷ [])
    ∷ judging (0x20 ∷ 0x00 ∷ 0x00 ∷ 0x07 ∷ 0x81 ∷ []) 4
    ∷ judging (0x20 ∷ 0x00 ∷ 0x00 ∷ 0x07 ∷ []) 1
    ∷ judging (0x20 ∷ 0x00 ∷ 0x00 ∷ 0x07 ∷ 0x80 ∷ 0x00 ∷ []) 3
    -- C5
    ∷ spelling registered (0x30 ∷ 0x00 ∷ 0x00 ∷ 0x00 ∷ 0x00 ∷ 0x09 ∷ 0x01 ∷ 0x44 ∷ 0x09 ∷ 0x20 ∷ [])
    -- C6
    ∷ spelling (message 20 2 ungraded (at 5 1 ∷ [])) (0x10 ∷ 0x00 ∷ 0x00 ∷ 0x01 ∷ 0x40 ∷ 0x00 ∷ 0x02 ∷ 0x00 ∷ 0x14 ∷ 0x04 ∷ [])
    -- C7
    ∷ spelling (unregister 0 0) (0x40 ∷ 0x00 ∷ 0x00 ∷ 0x00 ∷ 0x00 ∷ 0x00 ∷ [])
    ∷ passage 3 100 (encode (unregister 0 0) ∷ []) ((10 ∷ 0 ∷ []) ∷ [])
    -- C8: in force at 120, its serial taken; gone at 121, its serial free
    ∷ passage 3 100 c8
    ((0 ∷ 0 ∷ [])
    ∷ (0 ∷ 0 ∷ 2 ∷ 2000 ∷ [])
    ∷ (0 ∷ 0 ∷ 2 ∷ 2000 ∷ [])
    ∷ (8 ∷ 0 ∷ 2 ∷ 2000 ∷ [])
    ∷ (0 ∷ 1 ∷ [])
    ∷ (0 ∷ 0 ∷ 2 ∷ 2000 ∷ [])
    ∷ [])
    -- C9
    ∷ passage 3 100 c9 ((0 ∷ 0 ∷ []) ∷ (0 ∷ 0 ∷ 1 ∷ 2000 ∷ []) ∷ (0 ∷ 0 ∷ 2 ∷ 2000 ∷ 1 ∷ 2000 ∷ []) ∷ [])
    -- C10
    ∷ passage 3 100 c10
    ((0 ∷ 0 ∷ [])
    ∷ (0 ∷ 0 ∷ 1 ∷ 4400 ∷ [])
    ∷ (0 ∷ 0 ∷ 1 ∷ 4400 ∷ 2 ∷ 2000 ∷ [])
    ∷ (0 ∷ 0 ∷ 1 ∷ 4400 ∷ 3 ∷ 2828 ∷ [])
    ∷ (0 ∷ 1 ∷ 3 ∷ 2828 ∷ 2 ∷ 2000 ∷ [])
    ∷ (0 ∷ 0 ∷ 3 ∷ 2828 ∷ 2 ∷ 2000 ∷ [])
    ∷ (7 ∷ 0 ∷ 3 ∷ 2828 ∷ 2 ∷ 2000 ∷ [])
    ∷ [])
    -- T-02
    ∷ spelling (cancel 40 1) (0x50 ∷ 0x00 ∷ 0x00 ∷ 0x02 ∷ 0x80 ∷ 0x00 ∷ 0x01 ∷ [])
    ∷ judging (0x50 ∷ 0x00 ∷ 0x00 ∷ 0x02 ∷ 0x80 ∷ 0x00 ∷ []) 3
    ∷ judging (0xf0 ∷ 0x00 ∷ 0x00 ∷ 0x02 ∷ 0x80 ∷ 0x00 ∷ 0x01 ∷ []) 2
    ∷ passage 3 100 cancelled
    ((0 ∷ 0 ∷ [])
    ∷ (0 ∷ 0 ∷ 1 ∷ 4400 ∷ [])
    ∷ (0 ∷ 0 ∷ 1 ∷ 4400 ∷ 2 ∷ 2000 ∷ [])
    ∷ (0 ∷ 0 ∷ 1 ∷ 4400 ∷ 3 ∷ 2828 ∷ [])
    ∷ (0 ∷ 1 ∷ 3 ∷ 2828 ∷ 2 ∷ 2000 ∷ [])
    ∷ (13 ∷ 0 ∷ 3 ∷ 2828 ∷ 2 ∷ 2000 ∷ [])
    ∷ (0 ∷ 0 ∷ 3 ∷ 2828 ∷ 1 ∷ 2000 ∷ [])
    ∷ (0 ∷ 1 ∷ 4 ∷ 4000 ∷ 3 ∷ 2828 ∷ [])
    ∷ (7 ∷ 0 ∷ 4 ∷ 4000 ∷ 3 ∷ 2828 ∷ [])
    ∷ (13 ∷ 0 ∷ 4 ∷ 4000 ∷ 3 ∷ 2828 ∷ [])
    ∷ (0 ∷ 2 ∷ 4 ∷ 4000 ∷ [])
    ∷ [])
    ∷ passage 3 100 cancelled_unlisted
    ((0 ∷ 0 ∷ [])
    ∷ (0 ∷ 0 ∷ 1 ∷ 4400 ∷ [])
    ∷ (0 ∷ 0 ∷ 1 ∷ 4400 ∷ 2 ∷ 2000 ∷ [])
    ∷ (0 ∷ 0 ∷ 1 ∷ 4400 ∷ 3 ∷ 2828 ∷ [])
    ∷ (0 ∷ 1 ∷ 1 ∷ 4400 ∷ 3 ∷ 2828 ∷ [])
    ∷ (0 ∷ 1 ∷ 3 ∷ 2828 ∷ 2 ∷ 2000 ∷ [])
    ∷ (0 ∷ 1 ∷ 2 ∷ 2000 ∷ [])
    ∷ (13 ∷ 0 ∷ 2 ∷ 2000 ∷ [])
    ∷ (0 ∷ 0 ∷ 4 ∷ 4000 ∷ 2 ∷ 2000 ∷ [])
    ∷ (7 ∷ 0 ∷ 4 ∷ 4000 ∷ 2 ∷ 2000 ∷ [])
    ∷ (0 ∷ 0 ∷ 4 ∷ 4000 ∷ 2 ∷ 2000 ∷ [])
    ∷ (13 ∷ 0 ∷ 4 ∷ 4000 ∷ 2 ∷ 2000 ∷ [])
    ∷ (0 ∷ 1 ∷ 4 ∷ 4000 ∷ [])
    ∷ [])
    -- T-04: 14 after 4 and before 5
    ∷ spelling (message 10 1 (graded vital) (at 5 1 ∷ [])) (0x60 ∷ 0x00 ∷ 0x00 ∷ 0x00 ∷ 0xa0 ∷ 0x00 ∷ 0x01 ∷ 0x80 ∷ 0x05 ∷ 0x01 ∷ [])
    ∷ judging (0x60 ∷ 0x00 ∷ 0x00 ∷ 0x00 ∷ 0xa0 ∷ 0x00 ∷ 0x01 ∷ 0xc0 ∷ 0x05 ∷ []) 3
    ∷ judging (0x60 ∷ 0x00 ∷ 0x00 ∷ 0x00 ∷ 0xa0 ∷ 0x00 ∷ 0x01 ∷ 0xc4 ∷ 0x05 ∷ 0x00 ∷ 0x01 ∷ 0x40 ∷ 0x01 ∷ []) 4
    ∷ judging (0x60 ∷ 0x00 ∷ 0x00 ∷ 0x00 ∷ 0xa0 ∷ 0x00 ∷ 0x01 ∷ 0xc4 ∷ 0x05 ∷ 0x00 ∷ 0x01 ∷ 0x40 ∷ 0x00 ∷ []) 14
    ∷ judging (0x60 ∷ 0x00 ∷ 0x00 ∷ 0x00 ∷ 0xa0 ∷ 0x00 ∷ 0x01 ∷ 0x84 ∷ 0x05 ∷ 0x00 ∷ 0x01 ∷ 0x40 ∷ 0x00 ∷ []) 5
    ∷ judging (0x60 ∷ 0x00 ∷ 0x00 ∷ 0x00 ∷ 0xa0 ∷ 0x00 ∷ 0x01 ∷ 0x84 ∷ 0x05 ∷ 0x01 ∷ 0x01 ∷ 0x40 ∷ 0x40 ∷ []) 6
    ∷ passage 3 100 urgencies
    ((0 ∷ 0 ∷ [])
    ∷ (0 ∷ 0 ∷ 1 ∷ 2000 ∷ [])
    ∷ (0 ∷ 0 ∷ 1 ∷ 2000 ∷ 2 ∷ 2000 ∷ [])
    ∷ (0 ∷ 0 ∷ 1 ∷ 2000 ∷ 3 ∷ 2000 ∷ [])
    ∷ (0 ∷ 1 ∷ 3 ∷ 2000 ∷ 4 ∷ 2000 ∷ [])
    ∷ (14 ∷ 0 ∷ 3 ∷ 2000 ∷ 4 ∷ 2000 ∷ [])
    ∷ [])
    ∷ passage 3 100 tie_left_out
    ((0 ∷ 0 ∷ [])
    ∷ (0 ∷ 0 ∷ 1 ∷ 2000 ∷ [])
    ∷ (0 ∷ 0 ∷ 1 ∷ 2000 ∷ 2 ∷ 2000 ∷ [])
    ∷ (0 ∷ 0 ∷ 1 ∷ 2000 ∷ 3 ∷ 2000 ∷ [])
    ∷ (0 ∷ 1 ∷ 3 ∷ 2000 ∷ 2 ∷ 2000 ∷ [])
    ∷ (0 ∷ 1 ∷ 3 ∷ 2000 ∷ 4 ∷ 2000 ∷ [])
    ∷ (0 ∷ 1 ∷ 4 ∷ 2000 ∷ 5 ∷ 1414 ∷ [])
    ∷ [])
    -- T-05: after C10's first five frames
    ∷ searching 3 100 c10_start (ask 1 (at 5 1 ∷ at 9 2 ∷ [])) (0 ∷ 1 ∷ 3 ∷ 2828 ∷ [])
    ∷ searching 3 100 c10_start (ask 2 (at 5 1 ∷ at 9 2 ∷ [])) (0 ∷ 2 ∷ 3 ∷ 2828 ∷ 2 ∷ 2000 ∷ [])
    ∷ searching 3 100 c10_start (ask 3 (at 5 1 ∷ at 9 2 ∷ [])) (0 ∷ 3 ∷ 3 ∷ 2828 ∷ 2 ∷ 2000 ∷ 4 ∷ 894 ∷ [])
    ∷ searching 3 100 c10_start (ask 2 (at 40 1 ∷ [])) (0 ∷ 1 ∷ 3 ∷ 1414 ∷ [])
    ∷ searching 3 100 c10_start (ask 1 (at 7 1 ∷ [])) (0 ∷ 0 ∷ [])
    -- a score that equals the sum is not above it; the lower of two equal terms first; two postings of one message are one message seen
    ∷ searching 3 100 one_each (ask 1 (at 5 1 ∷ at 9 1 ∷ [])) (0 ∷ 2 ∷ 2 ∷ 2000 ∷ [])
    ∷ searching 3 100 both_in_one (ask 1 (at 5 1 ∷ at 9 1 ∷ [])) (0 ∷ 1 ∷ 1 ∷ 2828 ∷ [])
    ∷ searching 3 100 both_in_one (ask 2 (at 5 1 ∷ at 9 1 ∷ [])) (0 ∷ 3 ∷ 1 ∷ 2828 ∷ 2 ∷ 1414 ∷ [])
    ∷ searching 3 100 twice_one (ask 2 (at 5 2 ∷ at 9 2 ∷ at 40 1 ∷ [])) (0 ∷ 3 ∷ 1 ∷ 5656 ∷ 2 ∷ 2000 ∷ [])
    -- a message, whole or not, is 2; a registration with a weight of 0 is 5
    ∷ searching 3 100 c10_start (encode (message 20 2 ungraded (at 5 1 ∷ []))) (2 ∷ 0 ∷ [])
    ∷ searching 3 100 c10_start (0x10 ∷ 0x00 ∷ 0x00 ∷ 0x00 ∷ 0x00 ∷ []) (2 ∷ 0 ∷ [])
    ∷ searching 3 100 c10_start (0x10 ∷ 0x00 ∷ 0x00 ∷ 0x00 ∷ []) (1 ∷ 0 ∷ [])
    ∷ searching 3 100 c10_start (0x30 ∷ 0x00 ∷ 0x00 ∷ 0x00 ∷ 0x00 ∷ 0x09 ∷ 0x02 ∷ 0x40 ∷ 0x05 ∷ 0x00 ∷ []) (5 ∷ 0 ∷ [])
    -- T-06: a present term is never 0
    ∷ impacts (replicate 32 255) (replicate 32 353)
    ∷ impacts (1 ∷ replicate 31 255) (1 ∷ replicate 31 359)
    ∷ spelling (message 10 1 (long vital) (at 5 1 ∷ [])) (0x70 ∷ 0x00 ∷ 0x00 ∷ 0x00 ∷ 0xa0 ∷ 0x00 ∷ 0x01 ∷ 0x80 ∷ 0x02 ∷ 0x80 ∷ 0x80 ∷ [])
    ∷ spelling (message 10 1 (long vital) (numbered 0 (replicate 17 1)))
    (0x70 ∷ 0x00 ∷ 0x00 ∷ 0x00 ∷ 0xa0 ∷ 0x00 ∷ 0x01 ∷ 0xa0 ∷ 0x00 ∷ 0x00 ∷ 0x80 ∷ 0x20 ∷ 0x20 ∷ 0x10 ∷ 0x08 ∷ 0x06 ∷ 0x02 ∷ 0x02 ∷ 0x00 ∷ 0x80 ∷ 0xa0
    ∷ 0x20 ∷ 0x30 ∷ 0x08 ∷ 0x0e ∷ 0x02 ∷ 0x04 ∷ 0x00 ∷ 0x81 ∷ 0x20 ∷ 0x20 ∷ 0x50 ∷ 0x08 ∷ 0x16 ∷ 0x02 ∷ 0x06 ∷ 0x00 ∷ 0x81 ∷ 0xa0 ∷ 0x20 ∷ 0x70
    ∷ 0x08 ∷ 0x1e ∷ 0x02 ∷ 0x08 ∷ 0x00 ∷ 0x80 ∷ [])
    -- kind 7's bytes as kind 6, and kind 6's as kind 7
    ∷ judging (0x60 ∷ 0x00 ∷ 0x00 ∷ 0x00 ∷ 0xa0 ∷ 0x00 ∷ 0x01 ∷ 0x80 ∷ 0x02 ∷ 0x80 ∷ 0x80 ∷ []) 3
    ∷ judging (0x70 ∷ 0x00 ∷ 0x00 ∷ 0x00 ∷ 0xa0 ∷ 0x00 ∷ 0x01 ∷ 0x80 ∷ 0x05 ∷ 0x01 ∷ []) 3
    -- as kind 6 is refused: each row mends one thing of the row above
    ∷ judging (0x70 ∷ 0x00 ∷ 0x00 ∷ 0x00 ∷ 0xa0 ∷ 0x00 ∷ 0x01 ∷ 0xc2 ∷ 0x02 ∷ 0x80 ∷ 0x00 ∷ 0xa0 ∷ []) 3
    ∷ judging (0x70 ∷ 0x00 ∷ 0x00 ∷ 0x00 ∷ 0xa0 ∷ 0x00 ∷ 0x01 ∷ 0xc2 ∷ 0x02 ∷ 0x80 ∷ 0x00 ∷ 0xa0 ∷ 0x21 ∷ []) 4
    ∷ judging (0x70 ∷ 0x00 ∷ 0x00 ∷ 0x00 ∷ 0xa0 ∷ 0x00 ∷ 0x01 ∷ 0xc2 ∷ 0x02 ∷ 0x80 ∷ 0x00 ∷ 0xa0 ∷ 0x20 ∷ []) 14
    ∷ judging (0x70 ∷ 0x00 ∷ 0x00 ∷ 0x00 ∷ 0xa0 ∷ 0x00 ∷ 0x01 ∷ 0x82 ∷ 0x02 ∷ 0x80 ∷ 0x00 ∷ 0xa0 ∷ 0x20 ∷ []) 5
    ∷ judging (0x70 ∷ 0x00 ∷ 0x00 ∷ 0x00 ∷ 0xa0 ∷ 0x00 ∷ 0x01 ∷ 0x82 ∷ 0x02 ∷ 0x80 ∷ 0x80 ∷ 0xa0 ∷ 0x20 ∷ []) 6
    ∷ passage 3 100 longer
    ((0 ∷ 0 ∷ [])
    ∷ (0 ∷ 0 ∷ 1 ∷ 2000 ∷ [])
    ∷ (0 ∷ 0 ∷ 1 ∷ 2000 ∷ 2 ∷ 2000 ∷ [])
    ∷ (0 ∷ 0 ∷ 1 ∷ 2000 ∷ 2 ∷ 2000 ∷ [])
    ∷ (8 ∷ 0 ∷ 1 ∷ 2000 ∷ 2 ∷ 2000 ∷ [])
    ∷ (0 ∷ 1 ∷ 2 ∷ 2000 ∷ 3 ∷ 353 ∷ [])
    ∷ (0 ∷ 1 ∷ 3 ∷ 353 ∷ [])
    ∷ [])
    -- T-07
    ∷ comparing 8 100 close 1 0 (0 ∷ 1000 ∷ 0 ∷ [])
    ∷ comparing 8 100 close 2 0 (0 ∷ 996 ∷ 160 ∷ [])
    ∷ comparing 8 100 close 3 0 (0 ∷ 833 ∷ 10 ∷ [])
    ∷ comparing 8 100 close 4 0 (0 ∷ 0 ∷ 0 ∷ [])
    ∷ comparing 8 100 close 5 1 (0 ∷ 250 ∷ 0 ∷ [])
    ∷ comparing 3 100 c10_start 2 0 (0 ∷ 200 ∷ 0 ∷ [])
    -- cancelled, and for N no more in force; 13 before 10; numbers not in use
    ∷ comparing 8 100 close 6 0 (13 ∷ 0 ∷ 0 ∷ [])
    ∷ comparing 3 100 c10_start 1 0 (13 ∷ 0 ∷ 0 ∷ [])
    ∷ comparing 8 100 close 7 2 (13 ∷ 0 ∷ 0 ∷ [])
    ∷ comparing 8 100 close 1 2 (10 ∷ 0 ∷ 0 ∷ [])
    ∷ comparing 8 100 close 1 32 (10 ∷ 0 ∷ 0 ∷ [])
    -- T-08: all lines, within the second round, one, none; as many bytes as are needed
    ∷ screening 3 100 five_lines 512 4608 (0 ∷ 0 ∷ 3 ∷ 2828 ∷ 3 ∷ 2 ∷ 2000 ∷ 7 ∷ 3 ∷ 1414 ∷ 0 ∷ 2 ∷ 2000 ∷ 3 ∷ 4 ∷ 894 ∷ [])
    ∷ screening 3 100 five_lines 4 36 (0 ∷ 0 ∷ 3 ∷ 2828 ∷ 3 ∷ 2 ∷ 2000 ∷ 7 ∷ 3 ∷ 1414 ∷ 0 ∷ 2 ∷ 2000 ∷ [])
    ∷ screening 3 100 five_lines 1 9 (0 ∷ 0 ∷ 3 ∷ 2828 ∷ [])
    ∷ screening 3 100 five_lines 0 0 (0 ∷ [])
    -- no query is registered
    ∷ screening 3 100 one_each 512 4608 (0 ∷ [])
    -- too many lines before too few bytes; the bytes are for B lines, however many are placed
    ∷ screening 3 100 five_lines 513 0 (5 ∷ [])
    ∷ screening 3 100 five_lines 512 4607 (12 ∷ [])
    -- "Order for a frame": of all that is wrong the first is told. Each row mends one thing of the row above.
    ∷ judging (0x00 ∷ 0x00 ∷ 0x00 ∷ 0x00 ∷ []) 1
    ∷ judging (0x00 ∷ 0x00 ∷ 0x00 ∷ 0x00 ∷ 0x00 ∷ 0x09 ∷ 0x02 ∷ 0x40 ∷ 0x05 ∷ 0x01 ∷ 0x00 ∷ []) 2
    ∷ judging (0x30 ∷ 0x00 ∷ 0x00 ∷ 0x00 ∷ 0x00 ∷ 0x09 ∷ 0x02 ∷ 0x40 ∷ 0x05 ∷ 0x01 ∷ 0x00 ∷ []) 3
    ∷ judging (0x30 ∷ 0x00 ∷ 0x00 ∷ 0x00 ∷ 0x00 ∷ 0x09 ∷ 0x02 ∷ 0x40 ∷ 0x05 ∷ 0x01 ∷ []) 4
    ∷ judging (0x30 ∷ 0x00 ∷ 0x00 ∷ 0x00 ∷ 0x00 ∷ 0x09 ∷ 0x02 ∷ 0x40 ∷ 0x05 ∷ 0x00 ∷ []) 5
    ∷ judging (0x30 ∷ 0x00 ∷ 0x00 ∷ 0x00 ∷ 0x00 ∷ 0x09 ∷ 0x02 ∷ 0x44 ∷ 0x05 ∷ 0x20 ∷ []) 6
    -- a term twice; the terms in order
    ∷ judging (0x30 ∷ 0x00 ∷ 0x00 ∷ 0x00 ∷ 0x00 ∷ 0x09 ∷ 0x01 ∷ 0x44 ∷ 0x05 ∷ 0x20 ∷ []) 6
    ∷ judging (0x30 ∷ 0x00 ∷ 0x00 ∷ 0x00 ∷ 0x00 ∷ 0x09 ∷ 0x01 ∷ 0x44 ∷ 0x09 ∷ 0x20 ∷ []) 0
    -- a message that ends before its number of pairs
    ∷ judging (0x10 ∷ 0x00 ∷ 0x00 ∷ 0x00 ∷ 0x00 ∷ []) 3
    ∷ []
