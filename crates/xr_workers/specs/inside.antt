-- What only proofs and private functions need.
pub mod Made
pub mod Script
pub mod Composing
pub mod Telling
