pub use Rattle.model.specs.Messages
pub use Rattle.model.specs.Http2
pub use Rattle.model.specs.Malformed
pub mod Heads
pub mod Rules
pub mod Sent
pub mod Counts
