pub mod CallTexts
pub mod OpCalls
pub mod FramesOfRuns
pub mod Listing
pub mod DeviceAnswers
pub mod Failing
