pub mod Acceptance
pub mod Promises
