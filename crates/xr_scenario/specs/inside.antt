-- What only proofs and private functions need.
pub mod Shapes
pub mod OpNames
pub mod Keys
