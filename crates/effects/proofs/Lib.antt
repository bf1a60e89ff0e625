pub mod Cuts
pub mod Fragments
pub mod Going
pub mod HeadFields
