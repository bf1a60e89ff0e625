pub mod Taken
pub mod Kept
pub mod Owed
pub mod Acting
