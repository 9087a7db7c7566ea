pub mod Kinds
pub mod Refusing
pub mod Plans
pub mod Viewed
pub mod Ranks
pub mod Figure
pub mod Planned
pub mod Choosing
