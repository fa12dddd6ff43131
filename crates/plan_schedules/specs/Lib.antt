pub mod ScheduleLine
pub mod Promises
