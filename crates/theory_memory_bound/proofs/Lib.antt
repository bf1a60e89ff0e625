pub mod Lists
pub mod Answering
pub mod Left
pub mod Waiting
pub mod Holding
pub mod Rooms
pub mod Untold
pub mod HeldInside
