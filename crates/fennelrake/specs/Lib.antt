pub mod Entry
pub mod Sizes
pub mod Demand3
