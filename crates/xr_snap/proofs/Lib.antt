pub mod Writing
pub mod Entering
pub mod Found
pub mod Seen
pub mod Answered
pub mod UserColumns
pub mod Replies
