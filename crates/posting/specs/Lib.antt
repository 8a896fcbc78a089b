pub mod Lines
pub mod Posting
