pub mod Removals
pub mod Successes
