pub mod FoundAnnotation
