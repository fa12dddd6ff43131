pub mod Promises
pub mod JudgeReturns
