pub mod Telling
pub mod Passing
pub mod Connecting
pub mod Serving
mod Examples
