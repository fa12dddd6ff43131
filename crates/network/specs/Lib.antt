pub mod Network
pub mod Question
pub mod Certificate
pub mod Tests
pub mod PerfectMatchings
pub mod Promises
