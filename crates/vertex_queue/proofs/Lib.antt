pub mod LeastPlaces
pub mod Laws
