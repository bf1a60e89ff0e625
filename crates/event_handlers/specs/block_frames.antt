pub mod Following
pub mod Acting
pub mod Taken
