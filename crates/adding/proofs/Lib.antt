pub mod Turns
pub mod Lists
