pub mod Laying
pub mod Marked
pub mod ReadBack
pub mod Writing
