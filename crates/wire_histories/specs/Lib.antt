pub use Rattle.talks.specs.Answers
pub mod Lines
pub mod Histories
pub mod Conversations
pub mod Sessions
pub mod Legal
pub mod Noted
pub mod Examples
