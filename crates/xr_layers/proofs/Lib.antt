pub mod Few
pub mod Refused
pub mod Steps
