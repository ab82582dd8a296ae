pub use Rattle.agent_core.specs.Agents
pub mod Drives
pub mod Texts
pub mod Frames
pub mod Turning
