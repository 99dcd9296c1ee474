-- One rule a call, a file a group.
pub mod Instance
pub mod Session
pub mod Sets
pub mod Bindings
pub mod Spaces
pub mod Device
pub mod Paths
pub mod Own
pub mod Frames
pub mod Swapchains
pub mod Sync
