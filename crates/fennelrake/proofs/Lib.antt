pub mod AnswerLaws
pub mod TermLaws
pub mod LentLaws
pub mod Demand3
pub mod Sizes
