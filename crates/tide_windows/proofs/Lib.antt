pub mod OpenTests
pub mod Promises
