pub mod Waits
pub mod Beginning
pub mod Going
pub mod HeldInside
