pub mod Rooms
pub mod Orders
pub mod Packing
pub mod Listing
pub mod Answered
pub mod Understanding
