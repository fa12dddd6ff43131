pub mod Modular
pub mod Prime
pub mod Roots
pub mod Bound
pub mod Step
pub mod Promises
