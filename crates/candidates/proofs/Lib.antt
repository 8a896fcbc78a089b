pub mod FlagLaws
pub mod MeasureLaws
pub mod TermLaws
pub mod WalkLaws
pub mod MatchLaws
pub mod RowLaws
pub mod FlaggedLaws
