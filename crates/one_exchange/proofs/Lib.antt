pub mod Alone
pub mod Courses
pub mod Offered
pub mod Sent
pub mod Ending
pub mod Returning
pub mod Judged
pub mod Logs
pub mod Fair
mod Examples
