pub mod Choice
pub mod Checks
pub mod Lists
pub mod Sums
pub mod Integers
