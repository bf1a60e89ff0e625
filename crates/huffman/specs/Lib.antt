pub use Rattle.model.specs.Huffman
pub mod Decoding
pub mod Encoding
pub mod Waiting
pub mod Upcoming
pub mod Fronts
pub mod Taking
