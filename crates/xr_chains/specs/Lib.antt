pub mod ChainsLeft
pub mod Waited
