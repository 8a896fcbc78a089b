pub mod Match
pub mod Flags
pub mod Post
pub mod Rows
