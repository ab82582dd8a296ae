pub mod TurnLemmas
pub mod InputLemmas
pub mod KeyLemmas
