pub mod TakenVertices
pub mod Reaching
pub mod SearchSteps
pub mod BringingNear
