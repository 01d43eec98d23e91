pub mod Limits
pub mod Pairs
pub mod Parts
