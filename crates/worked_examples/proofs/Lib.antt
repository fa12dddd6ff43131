pub mod Routes
pub mod Plans
pub mod Meetings
pub mod Forgeries
pub mod Promises
