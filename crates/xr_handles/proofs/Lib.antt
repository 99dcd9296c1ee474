pub mod Keeping
pub mod Leaves
pub mod Numbers
pub mod Parents
pub mod Places
pub mod Sweeps
