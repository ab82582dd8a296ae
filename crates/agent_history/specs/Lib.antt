pub use Rattle.talks.specs.Lines
pub mod Deeds
pub mod Replies
pub mod SideFiles
pub mod Conversations
pub mod Requests
pub mod Histories
