pub mod Room
pub mod Promises
