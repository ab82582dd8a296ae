pub mod ChangeLemmas
pub mod FillLemmas
pub mod SessionLemmas
pub mod CauseLemmas
pub mod NoteLemmas
