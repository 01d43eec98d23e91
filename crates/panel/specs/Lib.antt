pub mod Answers
pub mod Reading
pub mod Listing
