pub mod Passed
pub mod Performing
pub mod Rising
pub mod Moving
pub mod Events
pub mod Queueing
mod Idling
mod Portions
