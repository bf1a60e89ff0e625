pub mod Through
pub mod Serving
