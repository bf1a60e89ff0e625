pub mod Queues
pub mod Sums
pub mod Tapes
pub mod Counting
pub mod Keeping
pub mod Incoming
pub mod Outgoing
pub mod Acting
pub mod Resting
pub mod Withholding
pub mod Admitting
pub mod Returning
pub mod Holding
pub mod Marking
pub mod Ruling
mod Examples
