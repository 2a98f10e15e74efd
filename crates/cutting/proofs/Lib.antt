pub mod Fragments
pub mod Turns
pub mod Rounding
