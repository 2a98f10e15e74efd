pub mod Scans
pub mod Numbers
pub mod Texts
pub mod Pieces
pub mod Shows
