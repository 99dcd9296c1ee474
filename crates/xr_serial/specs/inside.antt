-- What only proofs and private functions need.
pub mod Made
pub mod RunState
pub mod Turns
pub mod Sides
pub mod PastOfRun
pub mod RunInvariant
pub mod KeptTurns
pub mod AtEnd
