pub mod CellLaws
pub mod Newton
pub mod Places
pub mod Table
