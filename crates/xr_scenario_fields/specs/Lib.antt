pub mod Reads
pub mod Given
