pub mod NeedLaws
pub mod OfferLemmas
pub mod StartLemmas
pub mod StandLemmas
mod Rows
