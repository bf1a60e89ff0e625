pub use Rattle.model.specs.Turns
pub mod Least
