pub mod FileSteps
pub mod RunsTo
