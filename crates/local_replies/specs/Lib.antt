pub use Rattle.model.specs.Setup
pub use Rattle.model.specs.Causes
pub use Rattle.model.specs.Malformed
pub use Rattle.model.specs.ErrorTable
pub mod Views
pub mod Openings
pub use Rattle.model.specs.Limits
