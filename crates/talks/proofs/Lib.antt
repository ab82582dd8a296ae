pub mod Laws
pub mod StandLemmas
pub mod EndLaws
pub mod SeekLemmas
mod Rows
pub mod SizeLemmas
