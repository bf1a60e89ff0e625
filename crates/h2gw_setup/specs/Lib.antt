pub mod Stops
pub mod Addresses
pub mod Refusals
pub mod Figures
pub mod Checks
