pub mod Places
pub mod Workers
pub mod Ending
