pub mod Augmenting
