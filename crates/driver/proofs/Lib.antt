pub mod Adding
pub mod Keeping
pub mod Fitting
mod Serving
pub mod Calling
