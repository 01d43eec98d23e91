pub mod Numbers
pub mod Told
pub mod Filling
pub mod Fronts
pub mod ToldReading
pub mod ToldListing
