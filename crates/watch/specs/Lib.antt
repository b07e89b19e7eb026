pub mod Watching
pub mod Sight
