pub mod Told
pub mod Represents
pub mod Post
pub mod Inner
pub mod Demand3
