pub mod Read
pub mod Ask
pub mod Write
