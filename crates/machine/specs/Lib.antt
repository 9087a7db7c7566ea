pub mod Machines
pub mod Asked
pub mod Making
pub mod Applied
