pub mod Texts
pub mod Streams
pub mod Sent
pub mod Fronts
mod Examples
