pub mod Schedule
pub mod Promises
