pub mod TextLemmas
pub mod ReaderLaws
pub mod LoopLaws
pub mod PlaceLaws
pub mod FrontLemmas
pub mod PlaceLemmas
pub mod AddLemmas
pub mod WriteLemmas
