pub mod Windows
pub mod Promises
