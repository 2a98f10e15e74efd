pub mod Rejecting
pub mod Steps
pub mod Turns
pub mod Runs
pub mod Written
