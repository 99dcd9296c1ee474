pub mod Answers
pub mod FirstByte
pub mod Texts
pub mod Told
pub mod WholeLines
pub mod Prospect
pub mod Kinds
pub mod inside
