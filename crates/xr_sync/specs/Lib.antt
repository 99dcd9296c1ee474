pub mod Ranks
pub mod Given
pub mod Tables
