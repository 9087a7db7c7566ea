pub mod Faults
pub mod Wire
pub mod Decode
pub mod Written
