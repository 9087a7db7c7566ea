pub mod Texts
pub mod Padding
