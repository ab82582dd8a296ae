pub mod Lining
pub mod Turns
