pub mod LineLaws
pub mod InsertLaws
pub mod WalkLaws
pub mod PaperLaws
