pub mod Lines
pub mod Keys
pub mod Speaks
pub mod Printing
pub mod Steps
