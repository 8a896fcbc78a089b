-- What a host is told of a call: the number, 0 or that of the refusal, and what is returned beside it. Document 01, "Replies": "A refusal returns its
-- number, all else returned is 0, and no memory changes." Assumes nothing.
use Rattle.std.specs.Prelude.{ℕ, replicate}
use Rattle.std.specs.Prelude.{Result, Ok, Err}
use Rattle.paper.specs.declared.refusal.Refusal.{Refusal}
use Rattle.paper.specs.Frame.{most_listed}
use Rattle.paper.specs.Refusal.{number_of}
use Rattle.rank.specs.declared.Lines.{Lines}
use Rattle.closeness.specs.declared.Closeness.{Closeness}
use Rattle.engine.specs.declared.Reply.{Reply}
use Rattle.engine.specs.declared.Searched.{Searched}

abbrev pub number_told : {A : Type 0} → Result A Refusal → ℕ
number_told (Ok x) = 0
number_told (Err e) = number_of e

-- of a frame
pub record ToldReply : Type 0 where
  pub number : ℕ
  pub marks : ℕ
  pub departures : ℕ

abbrev pub told_reply : Result Reply Refusal → ToldReply
told_reply (Ok r) = record { number = 0; marks = r.marks; departures = r.departures }
told_reply (Err e) = record { number = number_of e; marks = 0; departures = 0 }

-- of a list reading
pub record ToldList : Type 0 where
  pub number : ℕ
  pub list : Lines

abbrev pub no_entry : Lines
no_entry = record { serials = replicate most_listed 0; scores = replicate most_listed 0; count = 0 }

abbrev pub told_list : Result Lines Refusal → ToldList
told_list (Ok l) = record { number = 0; list = l }
told_list (Err e) = record { number = number_of e; list = no_entry }

-- of a posting reading, and of a screen
pub record ToldCount : Type 0 where
  pub number : ℕ
  pub count : ℕ

abbrev pub told_count : Result ℕ Refusal → ToldCount
told_count (Ok n) = record { number = 0; count = n }
told_count (Err e) = record { number = number_of e; count = 0 }

-- of a search
pub record ToldSearch : Type 0 where
  pub number : ℕ
  pub list : Lines
  pub read : ℕ

abbrev pub told_search : Result Searched Refusal → ToldSearch
told_search (Ok x) = record { number = 0; list = x.list; read = x.read }
told_search (Err e) = record { number = number_of e; list = no_entry; read = 0 }

-- of a closeness
pub record ToldCloseness : Type 0 where
  pub number : ℕ
  pub quotient : ℕ
  pub remainder : ℕ

abbrev pub told_closeness : Result Closeness Refusal → ToldCloseness
told_closeness (Ok c) = record { number = 0; quotient = c.quotient; remainder = c.remainder }
told_closeness (Err e) = record { number = number_of e; quotient = 0; remainder = 0 }
