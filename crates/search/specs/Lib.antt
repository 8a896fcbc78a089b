pub mod Cut
pub mod Post
