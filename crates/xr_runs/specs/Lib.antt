pub mod Runs
pub mod Sides
