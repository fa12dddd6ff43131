pub mod Certify
pub mod Instance
