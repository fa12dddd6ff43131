pub mod Preflow
