pub mod WordLaws
pub mod KeepsLaws
pub mod ArrayLaws
