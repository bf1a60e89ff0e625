pub mod Following
pub mod Admitting
pub mod Ends
pub mod Calming
pub mod Results
pub mod Stays
mod Took
mod Drained
pub mod Closings
pub mod MidSteps
pub mod Frames
