pub mod Run
pub mod Top
pub mod TopLaws
pub mod Files
pub mod Program
pub mod Lines
pub mod inside
