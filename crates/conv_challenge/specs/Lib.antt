pub mod Starts
pub mod Numbers
pub mod Clients
pub mod Servers
pub mod Courses
pub mod Steps
pub mod Standing
