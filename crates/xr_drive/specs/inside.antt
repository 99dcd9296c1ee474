-- What only proofs and private functions need.
pub mod Input
pub mod CallParts
