pub mod Rows
pub mod Blocks
pub mod Agreement
pub mod Lines
pub mod Theorems
