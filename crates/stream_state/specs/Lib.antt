pub use Rattle.model.specs.StreamStates
pub use Rattle.model.specs.Errors
pub use Rattle.model.specs.Frames
pub use Rattle.model.specs.ErrorTable
pub mod Views
pub mod Records
pub use Rattle.model.specs.Limits
