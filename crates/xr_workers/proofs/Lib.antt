pub mod CallsMade
pub mod EventsMade
pub mod ScriptsMade
pub mod TurnsMade
pub mod FramesMade
