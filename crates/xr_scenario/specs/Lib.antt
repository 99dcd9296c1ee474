pub mod Size
pub mod Few
pub mod LoadLaws
pub mod Pushed
pub mod inside
