pub mod Calling
pub mod Passes
pub mod Closing
pub mod Lending
pub mod Settling
