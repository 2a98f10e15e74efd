pub mod Calls
pub mod Meaning
pub mod Refusals
pub mod Sides
