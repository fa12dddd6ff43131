pub mod PathAnswer
