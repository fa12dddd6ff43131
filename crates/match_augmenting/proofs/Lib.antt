pub mod Raising
pub mod Augmentation
pub mod RaiseLoop
pub mod Reached
