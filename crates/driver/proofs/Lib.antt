pub mod Answering
pub mod Soundness
