pub mod Publishing
pub mod Reading
pub mod Answering
