pub mod Steps
pub mod Faults
pub mod Runs
pub mod Readers
pub mod Written
