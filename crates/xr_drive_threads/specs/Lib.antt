pub mod Top
pub mod TopLaws
pub mod inside
