pub mod SumLaws
pub mod CutLaws
pub mod ColumnLaws
pub mod FoundLaws
