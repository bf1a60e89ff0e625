pub mod Views
pub mod Waiting
pub mod HeldInside
