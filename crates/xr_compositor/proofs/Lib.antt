pub mod FewImages
pub mod Turning
