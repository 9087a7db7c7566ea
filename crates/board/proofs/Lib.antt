pub mod Refusing
pub mod Padding
pub mod Planning
pub mod Counting
pub mod Legality
pub mod Ranking
pub mod Chosen
