pub mod FirstBytes
pub mod Digits
pub mod Inputs
pub mod Poses
pub mod TextLines
pub mod HeldBytes
pub mod WholeFronts
pub mod LineSteps
