pub mod Routes
pub mod Heads
pub mod Blocks
