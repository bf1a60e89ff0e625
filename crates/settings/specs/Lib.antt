pub use Rattle.model.specs.SettingValues
pub use Rattle.model.specs.Windows
pub mod Views
pub mod Accumulated
pub mod HeldInside
pub use Rattle.model.specs.Limits
