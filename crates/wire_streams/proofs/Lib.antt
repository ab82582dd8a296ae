pub mod StreamLemmas
pub mod AddLemmas
pub mod HandLemmas
