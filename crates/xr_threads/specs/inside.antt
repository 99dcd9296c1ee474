-- What only proofs and private functions need.
pub mod Working
pub mod Ending
