pub mod Field
pub mod Promises
