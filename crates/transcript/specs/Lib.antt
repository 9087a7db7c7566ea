pub mod Inputs
pub mod Rows
