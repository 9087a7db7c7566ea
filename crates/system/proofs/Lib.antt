pub mod Stacks
pub mod Noting
pub mod Wakes
pub mod Standing
pub mod Figures
pub mod Ranked
