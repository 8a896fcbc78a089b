pub mod HeaderLaws
pub mod RingLaws
pub mod SlotLaws
pub mod TableLaws
pub mod RowLaws
pub mod WalkLaws
pub mod LogLaws
