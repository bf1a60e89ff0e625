pub mod Groups
pub mod Written
