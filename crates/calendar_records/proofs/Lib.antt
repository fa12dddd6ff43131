pub mod LeftArcs
pub mod LeftRecords
pub mod EmptyArcs
