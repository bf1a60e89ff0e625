pub use Rattle.model.specs.Octets
pub use Rattle.model.specs.Messages
pub use Rattle.model.specs.Http1
pub use Rattle.model.specs.Http2
pub mod Ordinary
