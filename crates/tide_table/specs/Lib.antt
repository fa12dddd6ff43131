pub mod Text
pub mod TideTable
pub mod Reading
pub mod Promises
