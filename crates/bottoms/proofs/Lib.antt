pub mod MemoryWrites
pub mod PageWrites
pub mod Partly
