pub mod Pieces
pub mod Told
pub mod Reading
pub mod Ending
pub mod Judging
pub mod Verdicts
