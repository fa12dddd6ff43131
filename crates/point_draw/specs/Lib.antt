pub mod Draw
pub mod Promises
