pub mod Ranges
pub mod Promises
