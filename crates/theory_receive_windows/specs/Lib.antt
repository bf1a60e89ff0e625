pub mod Marks
pub mod State
pub mod Policy
pub mod Rule
pub mod Rooms
pub mod Held
pub mod Marking
