pub mod Directions
pub mod Links
