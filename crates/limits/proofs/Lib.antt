pub mod Barring
pub mod Weighing
