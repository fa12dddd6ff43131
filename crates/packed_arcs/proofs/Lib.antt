pub mod ArcColumns
pub mod LentParts
pub mod ListLoops
pub mod LimitTests
pub mod ColumnSums
pub mod Sums
pub mod Zeros
