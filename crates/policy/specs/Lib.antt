pub mod Policies
pub mod Priorities
pub mod Staying
pub mod Leading
pub mod Favouring
