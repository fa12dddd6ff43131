pub mod Answers
pub mod State
pub mod Turns
pub mod Results
