pub mod Halves
pub mod Reading
pub mod Windows
pub mod Layouts
pub mod Records
pub mod Codings
pub mod Promises
pub mod LentRests
