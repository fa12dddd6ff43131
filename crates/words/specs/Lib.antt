pub mod Marks
pub mod Masks
pub mod Bounded
