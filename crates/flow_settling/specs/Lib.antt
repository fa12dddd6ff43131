pub mod Settling
pub mod Calls
