pub mod Controls
pub mod Greeting
pub mod Returning
pub mod Taking
