pub mod ChainPlaces
pub mod Freeing
