pub mod Pieces
pub mod Numbers
pub mod Words
pub mod Tables
pub mod WrittenLines
pub mod Promises
