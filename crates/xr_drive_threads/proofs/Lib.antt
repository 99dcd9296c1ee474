pub mod NeverStuck
pub mod Following
pub mod RunAnswers
