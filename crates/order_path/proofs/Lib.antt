pub mod CurrentArcs
pub mod Paths
pub mod Rankings
