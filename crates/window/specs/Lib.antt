pub mod Slot
pub mod Table
pub mod Rows
pub mod Cursor
