pub mod Waiting
pub mod Hearing
pub mod HeldInside
pub mod Telling
pub mod Verdicts
