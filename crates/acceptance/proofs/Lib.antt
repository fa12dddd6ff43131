pub mod AcceptedFiles
pub mod RecordsChecked
pub mod Promises
