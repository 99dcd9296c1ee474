-- What only proofs and private functions need.
pub mod Changes
pub mod Deciding
pub mod Getters
pub mod Groups
pub mod Housed
pub mod Plainly
pub mod Ranked
pub mod Refusing
pub mod Seats
pub mod Sights
pub mod Users
pub mod Viewing
