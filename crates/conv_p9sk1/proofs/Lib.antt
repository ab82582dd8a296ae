pub mod PartLemmas
pub mod StandLemmas
