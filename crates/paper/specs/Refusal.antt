-- The numbers of the refusals. Document 01, "Replies", and document 02, T-02 and T-04. Assumes nothing.
use Rattle.std.specs.Prelude.{ℕ}
use Rattle.paper.specs.declared.refusal.Refusal.{Refusal}
use Rattle.paper.specs.declared.refusal.Refusal.TheVariants.{
  Short,
  Kind,
  Length,
  Fill,
  Value,
  Order,
  Time,
  Serial,
  InUse,
  NotInUse,
  Start,
  Memory,
  NotInForce,
  Urgency,
}

abbrev pub number_of : Refusal → ℕ
number_of Short = 1
number_of Kind = 2
number_of Length = 3
number_of Fill = 4
number_of Value = 5
number_of Order = 6
number_of Time = 7
number_of Serial = 8
number_of InUse = 9
number_of NotInUse = 10
number_of Start = 11
number_of Memory = 12
number_of NotInForce = 13
number_of Urgency = 14
