pub mod Bits
pub mod Tables
pub mod Rounds
pub mod Schedule
pub mod Rows
