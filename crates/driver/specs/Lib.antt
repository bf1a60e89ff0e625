pub mod Worlds
pub mod Memory
pub mod Services
pub mod Calls
