pub mod Keys
pub mod Driven
pub mod Quiet
pub mod Idle
