pub mod Tree
pub mod Stats
pub mod Faults
pub mod Calls
pub mod Directories
pub mod Held
