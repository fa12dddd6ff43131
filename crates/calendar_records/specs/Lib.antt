pub mod MinuteNetwork
pub mod Records
