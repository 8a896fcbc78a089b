pub mod Listing
pub mod Weights
