pub mod Faults
pub mod Driven
