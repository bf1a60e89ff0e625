pub mod Ending
pub mod Passing
pub mod HeldInside
