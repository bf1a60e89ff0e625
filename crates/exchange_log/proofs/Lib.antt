pub mod Pieces
pub mod Hearing
