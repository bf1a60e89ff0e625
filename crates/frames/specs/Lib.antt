pub mod Views
pub mod Parts
pub mod Parsed
pub use Rattle.model.specs.Frames
pub use Rattle.model.specs.Payloads
pub use Rattle.model.specs.WindowsOnTape
pub use Rattle.model.specs.FrameErrors
