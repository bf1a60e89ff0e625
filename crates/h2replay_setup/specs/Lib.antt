pub mod Stops
pub mod Settings
pub mod Refusals
