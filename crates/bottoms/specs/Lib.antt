pub mod Memories
pub mod Pages
pub mod Parts
