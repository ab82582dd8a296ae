pub mod Values
pub mod Lines
pub mod Shown
pub mod Showing
