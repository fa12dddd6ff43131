pub mod AnnotationLine
pub mod Promises
