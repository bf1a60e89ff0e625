pub mod Rising
pub mod Finding
pub mod Readying
pub mod Balances
pub mod Heads
pub mod Changing
pub mod Hearing
pub mod OnOffer
