pub mod ArcIndex
pub mod Chains
pub mod Promises
pub mod Columns
