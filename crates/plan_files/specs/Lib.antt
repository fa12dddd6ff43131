pub mod AnswerLine
pub mod Promises
