pub mod OneMore
pub mod Refused
