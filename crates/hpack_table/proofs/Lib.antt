pub mod StaticTable
pub mod Chained
pub mod ByHash
pub mod Kept
pub mod Looked
pub mod Popped
pub mod Searched
pub mod Walked
mod HeldInside
