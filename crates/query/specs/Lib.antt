pub mod Record
pub mod Move
pub mod Post
pub mod Touch
