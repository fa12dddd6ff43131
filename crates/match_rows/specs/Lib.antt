pub mod Copying
pub mod Parting
