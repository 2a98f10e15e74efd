pub mod Spaces
pub mod ByteSpaces
pub mod Reducing
pub mod Placing
pub mod Settling
pub mod Counting
pub mod Standing
pub mod Theorems
