pub mod Cuts
pub mod Layouts
