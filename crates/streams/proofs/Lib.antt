pub mod Lists
pub mod Searches
pub mod Asked
pub mod Changes
pub mod Courses
pub mod Openings
pub mod Sending
mod HeldInside
