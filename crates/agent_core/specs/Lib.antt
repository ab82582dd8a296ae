pub mod Events
pub mod Agents
pub mod Serves
