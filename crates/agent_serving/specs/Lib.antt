pub use Rattle.agent_hub.specs.Submits
pub mod Prompting
pub mod Keeping
pub mod Jobs
pub mod Serving
pub mod Endings
pub mod Words
