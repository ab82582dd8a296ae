pub mod RecordLemmas
pub mod SpellLemmas
pub mod TextLemmas
pub mod TellLemmas
mod NamedLemmas
pub mod AgentLemmas
pub mod DomainLemmas
pub mod NoteLemmas
