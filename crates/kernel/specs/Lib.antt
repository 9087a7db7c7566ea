pub mod Numbers
pub mod Texts
pub mod States
pub mod Rules
pub mod Histories
pub mod Afterwards
