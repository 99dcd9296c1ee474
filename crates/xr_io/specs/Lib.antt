pub mod Outside
pub mod Asked
pub mod Files
pub mod Memory
pub mod Held
