pub mod VertexQueue
