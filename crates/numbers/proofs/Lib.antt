pub mod Members
pub mod Gathering
