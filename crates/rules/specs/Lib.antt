pub mod Filling
pub mod Repeats
pub mod Draws
pub mod Bound
pub mod RuleLaws
pub mod Places
