pub mod Limits
pub mod Arcs
