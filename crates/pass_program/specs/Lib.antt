pub mod Statuses
pub mod Changes
pub mod Sessions
pub mod Changing
pub mod Words
pub mod Steps
pub mod Notes
