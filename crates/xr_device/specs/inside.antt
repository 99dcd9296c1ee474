-- What only proofs and private functions need.
pub mod Said
pub mod Steps
