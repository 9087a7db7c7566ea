pub mod Words
pub mod Parts
pub mod Stages
pub mod OneForm
pub mod RoundTrip
pub mod Placing
