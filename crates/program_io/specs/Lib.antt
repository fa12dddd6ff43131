pub mod Line
pub mod Counted
