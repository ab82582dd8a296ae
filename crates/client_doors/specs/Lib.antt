pub mod Doors
pub mod Lines
pub mod Addresses
pub mod Inside
pub mod Wrongs
pub mod Histories
pub mod Minutes
