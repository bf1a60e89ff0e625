pub mod Smuggling
