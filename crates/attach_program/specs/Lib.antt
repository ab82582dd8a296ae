pub mod Statuses
pub mod Keys
pub mod Notes
pub mod Runs
pub mod Serving
pub mod Steps
