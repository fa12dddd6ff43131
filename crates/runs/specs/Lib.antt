pub mod Run
pub mod AcceptedLists
pub mod HeldAtPoint
pub mod Exchange
pub mod Promises
