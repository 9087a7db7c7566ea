pub mod Mapped
pub mod Stepping
pub mod Counts
pub mod Writing
pub mod RoundTrip
pub mod OneForm
