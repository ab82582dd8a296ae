pub mod GenClap
pub mod GivenLemmas
pub mod PlayLemmas
pub mod EndLemmas
