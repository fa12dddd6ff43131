pub mod Points
pub mod Promises
