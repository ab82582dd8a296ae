pub mod Requests
pub mod Answers
pub mod Standing
pub mod Sessions
pub mod Serving
pub mod Steps
pub mod Clients
pub mod Notices
