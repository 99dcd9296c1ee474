pub mod Filled
pub mod Sound
