pub mod Transfers
pub mod HeldInside
