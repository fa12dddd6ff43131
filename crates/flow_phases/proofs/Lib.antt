pub mod NearestVertex
