pub mod TreeLaws
pub mod Scans
