pub mod Keys
pub mod Configs
pub mod Steps
pub mod Lines
