pub mod Families
pub mod Walks
pub mod Trees
pub mod Closed
