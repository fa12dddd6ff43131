pub mod Files
pub mod Promises
pub mod Replies
