pub mod Endings
pub mod Hearing
pub mod Kept
pub mod Numbers
pub mod Addresses
pub mod Servers
pub mod Failures
pub mod Asking
