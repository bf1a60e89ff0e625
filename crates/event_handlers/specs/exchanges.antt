pub mod Giving
pub mod Taking
pub mod Opening
pub mod Finishing
