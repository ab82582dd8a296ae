pub mod Words
pub mod Reading
pub mod Playing
pub mod Running
pub mod Summing
pub mod Counts
