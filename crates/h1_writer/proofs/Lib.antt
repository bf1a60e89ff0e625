pub mod Digits
pub mod Texts
pub mod Stages
pub mod Written
pub mod Wholes
pub mod Closing
