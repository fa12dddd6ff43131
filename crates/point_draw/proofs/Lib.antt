pub mod Halves
pub mod Promises
pub mod Words
