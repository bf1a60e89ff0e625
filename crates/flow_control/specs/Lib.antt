pub use Rattle.model.specs.Windows
pub mod HeldInside
pub use Rattle.model.specs.Limits
