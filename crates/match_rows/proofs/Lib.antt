pub mod CopiedArcs
pub mod OneRow
pub mod OtherOrder
pub mod AllRows
pub mod Gathering
pub mod LightestLast
pub mod StillExposed
