pub mod Residual
pub mod Push
pub mod Phase
pub mod PackedNetwork
