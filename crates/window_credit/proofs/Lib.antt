pub mod Rising
pub mod Finding
pub mod Counted
pub mod Changing
pub mod Looking
pub mod Behind
pub mod Once
pub mod Telling
pub mod Taking
mod HeldInside
pub mod Marked
pub mod CountedInQueue
mod HeldInQueue
