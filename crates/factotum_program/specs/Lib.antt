pub mod Pipe
pub mod Sights
pub mod Commands
pub mod Gathers
pub mod Asks
pub mod Sessions
pub mod Words
pub mod Reading
