pub mod Conserving
pub mod Standing
