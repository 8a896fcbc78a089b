pub mod BitLaws
pub mod FieldLaws
pub mod LayoutLaws
pub mod Gather
pub mod Chunk
