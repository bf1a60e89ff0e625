pub use Rattle.model.specs.Integers
pub mod Reading
pub mod Writing
