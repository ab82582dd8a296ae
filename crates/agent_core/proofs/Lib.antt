pub mod EventSteps
pub mod AskSteps
pub mod AgentSteps
mod KnownSteps
mod LiveSteps
pub mod ServeSteps
