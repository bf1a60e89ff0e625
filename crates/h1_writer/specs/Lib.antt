pub use Rattle.model.specs.Http1
pub use Rattle.model.specs.Http1Text
pub use Rattle.request_rules.specs.Heads
pub mod Sending
pub mod Views
