pub mod NeedLaws
pub mod NumberLemmas
pub mod StandLemmas
pub mod TextLemmas
mod Rows
