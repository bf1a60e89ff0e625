pub mod Texts
pub mod FieldOrder
pub mod Numbers
