pub mod CallOutcomes
pub mod PhasesAfter
