pub mod Highest
pub mod HighestLemmas
