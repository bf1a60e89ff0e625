pub use Rattle.model.specs.Tables
pub use Rattle.model.specs.Messages
pub mod Finding
pub mod Searching
pub mod Chaining
pub mod Indexing
pub mod Ringed
pub mod HeldInside
