pub mod Fronts
pub mod Rule
pub mod Steps
pub mod Seats
pub mod Sentences
pub mod Counting
