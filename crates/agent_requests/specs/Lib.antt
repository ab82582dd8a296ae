pub mod Connections
pub mod LineRequests
pub mod RpcRequests
pub use Rattle.agent_talks.specs.Logging
pub use Rattle.agent_talks.specs.declared.standing.Conversations
pub mod Sharing
pub mod Serving
