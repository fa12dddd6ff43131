pub mod MinuteFile
pub mod Promises
pub mod ScheduleReturns
