pub mod Lows
pub mod Moves
pub mod PlaceLaws
pub mod Told
pub mod Tries
pub mod Writes
