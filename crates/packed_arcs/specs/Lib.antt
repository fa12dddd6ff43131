pub mod Entries
pub mod PackedArcs
pub mod Limits
