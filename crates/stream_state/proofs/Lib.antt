mod Searches
mod Changes
pub mod Openings
