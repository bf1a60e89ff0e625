pub mod Scripts
pub mod Faults
pub mod Printing
pub mod Stops
pub use Rattle.gateway.specs.Views
pub use Rattle.model.specs.Logs
