pub mod StepLoops
pub mod AnnotationReturns
