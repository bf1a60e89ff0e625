pub mod Closes
pub mod Goaways
pub mod Ends
pub mod Shutting
