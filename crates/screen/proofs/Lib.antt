pub mod LineLaws
pub mod WaitLaws
pub mod RoundLaws
