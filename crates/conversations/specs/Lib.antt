pub mod Fits
pub mod Asking
pub mod Meanings
pub mod Begins
pub mod Shown
