pub mod Bits
pub mod Field
