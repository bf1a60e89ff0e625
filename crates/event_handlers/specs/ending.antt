pub mod Reasons
pub mod Closing
