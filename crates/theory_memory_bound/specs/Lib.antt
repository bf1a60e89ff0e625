pub mod Held
pub mod HeldInside
