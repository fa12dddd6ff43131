pub mod WrittenParts
