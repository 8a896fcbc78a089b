pub mod Cell
pub mod Table
